-- `book_sound::entries_at::entry_sound` meets its contract: by the sender and the kind, the entry is tested by what is left to ask of it.
use Rattle.std.proofs.Common.{sym, ◌∙◌, arith}
use Rattle.book_sound.proofs.Entries.{info-count, entry-foreign, entry-told, entry_other, entry-info}
use Rattle.book_sound.proofs.entries_at.entry_sound.Goals as goal

pub returns-then-n-b : goal.returns-then-n-b
returns-then-n-b c = sym (entry-foreign c.args.b.now c.args.at c.args.n c.requires.1 c.if-n-b.true)

pub sound-requires : goal.sound-requires
sound-requires c = let t = info-count c.args.b.now c.args.at c.args.n c.requires.1 c.in-2.is in omega (arith, t.1)

pub returns-in-2 : goal.returns-in-2
returns-in-2 c = c.sound.ensures ∙ entry-info c.args.b.now c.args.at c.args.n c.requires.1 c.if-n-b.false c.in-2.is

pub returns-in-4 : goal.returns-in-4
returns-in-4 c = c.told_fits.ensures ∙ entry-told c.args.b.now c.args.at c.args.n c.requires.1 c.if-n-b.false c.in-4.is

pub returns-in_default : goal.returns-in_default
returns-in_default c = entry_other c.args.b.now c.args.at c.args.n c.requires.1 c.if-n-b.false (λ e. omega arith) (λ e. omega arith)
