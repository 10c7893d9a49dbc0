use Rattle.bench_session.proofs.unread.Goals as goal

pub returns : goal.returns
returns c = cc
