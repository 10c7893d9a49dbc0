-- `group_sound::tables::entry_known` meets its contract: by the sender; of a client message that is all, of a told the count is left, of an info its
-- views.
use mathlib.Core.Path.{sym, ◌∙◌}
use Rattle.wire.specs.Reader.{views_in}
use Rattle.group_sound.proofs.Infos.{client-known, foreign-known, told-known, other-known}
use Rattle.group_sound.proofs.Tests.{list-fits, list-rises}
use Rattle.group_sound.proofs.tables.entry_known.Goals as goal

pub returns-then-n-q : goal.returns-then-n-q
returns-then-n-q c =
    let e = c in
    let views = views_in e.args.list.now 0 e.args.made in
    sym (foreign-known e.args.q.now e.args.at views e.args.n (list-fits e.args.n views e.requires.2) c.if-n-q.true)

pub returns-then-kind-eq-CLIENT : goal.returns-then-kind-eq-CLIENT
returns-then-kind-eq-CLIENT c =
    let e = c in
    let views = views_in e.args.list.now 0 e.args.made in
    sym (client-known e.args.q.now e.args.at views e.args.n (list-fits e.args.n views e.requires.2) c.if-n-q.false c.if-kind-eq-CLIENT.true)

pub returns-then-kind-eq-TOLD : goal.returns-then-kind-eq-TOLD
returns-then-kind-eq-TOLD c =
    let e = c in
    let views = views_in e.args.list.now 0 e.args.made in
    c.told_fits.ensures
    ∙ sym (told-known e.args.q.now e.args.at views e.args.n (list-fits e.args.n views e.requires.2)
    c.if-n-q.false c.if-kind-eq-TOLD.true)

pub slot_known-requires : goal.slot_known-requires
slot_known-requires c =
    let e = c in
    (e.requires.0, e.requires.1, list-rises e.args.n (views_in e.args.list.now 0 e.args.made) e.requires.2)

pub returns : goal.returns
returns c =
    let e = c in
    let views = views_in e.args.list.now 0 e.args.made in
    c.slot_known.ensures
    ∙ sym (other-known e.args.q.now e.args.at views e.args.n (list-fits e.args.n views e.requires.2)
    c.if-n-q.false c.if-kind-eq-TOLD.false)
