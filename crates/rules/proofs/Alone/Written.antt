-- The bytes of a message that the writer takes are read as that message, sent in that view.
use mathlib.Core.Path.{◌≡◌, refl, ap, ◌∙◌}
use mathlib.Core.List.{List}
use Prim.Native.Nat.{ℕ, ◌≤◌}
use native.Mathlib.Omega.{arith}
use lib.ListN.{length, length-take}
use Rattle.views.specs.declared.View.{View}
use Rattle.std.specs.Prelude.{Ok}
use Rattle.views.specs.Limits.{max_views}
use Rattle.views.specs.Lists.{list_of, placed}
use Rattle.views.proofs.PlaceLaws.{list-placed}
use Rattle.wire.specs.declared.Message.{Message as Carried}
use Rattle.wire.specs.declared.Frame.{Frame}
use Rattle.wire.specs.Widths.{Fits}
use Rattle.wire.specs.Single.{read_one}
use Rattle.wire.specs.Writer.{frame_bytes, frame_verdict}
use Rattle.wire.proofs.RoundTrip.{written-reads}
use Rattle.rules.specs.Data.{Message, client, info, registered, told, accepted}
use Rattle.rules.specs.Alone.{views_of, carried_of, message_of, Sent, sent_of}

same-message : (m : Message) → message_of (carried_of m) (views_of m) ≡ m
same-message (client x) = refl
same-message (info v l) = refl
same-message registered = refl
same-message (told k) = refl

abbrev sent_in : ℕ → Message → Sent
sent_in g m = record { view = g; message = m }

-- a frame that is within its widths, that the writer accepts, and that carries the message
pub written-sent : (f : Frame) (m : Message) → Fits f → frame_verdict f ≡ Ok tt → f.message ≡ carried_of m → list_of f.views ≡ views_of m
    → sent_of (read_one (frame_bytes f)) ≡ accepted (record { view = f.view.0; message = m })
written-sent f m fit v carried views =
    let g = f.view.0 in
    let few : length (list_of f.views) ≤ max_views = omega (arith, length-take f.views.count f.views.at, fit.room) in
    let back : list_of (placed (list_of f.views)) ≡ list_of f.views = list-placed (list_of f.views) few in
    ap sent_of (written-reads f fit v)
    ∙ ap (λ (l : List View). accepted (sent_in g (message_of f.message l))) (back ∙ views)
    ∙ ap (λ (c : Carried). accepted (sent_in g (message_of c (views_of m)))) carried
    ∙ ap (λ (x : Message). accepted (sent_in g x)) (same-message m)
