-- `member::messages::packet::deliver` meets its contract. The invariant: what is done of the packet, and what is left of the book, lead to where the
-- whole packet leads.
use mathlib.Core.Path.{refl, sym, ◌∙◌}
use mathlib.Core.List.{List}
use Prim.Native.Nat.{ℕ, ◌-◌}
use native.Mathlib.Omega.{arith}
use borrow.Author.Rules.{rules}
use borrow.Author.Tests.{not-false}
use lib.ListN.{length, take, drop, length-drop}
use lib.Seq.{take_all}
use Rattle.std.specs.Prelude.{Result}
use Rattle.views.specs.declared.refusal.Refusal.{Refusal}
use Rattle.wire.specs.Widths.{AreBytes}
use Rattle.member.specs.Parts.{GaveFront}
use Rattle.member.proofs.PacketLaws.{underway-begins, underway-ends, underway-stops, underway-takes, underway-goes, packet-refused}
use Rattle.member.proofs.messages.packet.deliver.Goals as goal

-- the bytes from a place on are all that lies after it
behind : {q : ℕ} {b d : List ℕ} {r : Result ℕ Refusal} (s : List ℕ) (at : ℕ)
    → GaveFront (take (length s - at) (drop at s)) q b d r → GaveFront (drop at s) q b d r
behind s at g = rw (take_all (length s - at) (drop at s) (omega (arith, length-drop at s))) at g

pub returns-then-not-sound : goal.returns-then-not-sound
returns-then-not-sound c = let a = c.args in packet-refused a.bytes.now a.q.0 a.b.now _ c.sound.ensures c.if-not-sound.true-raw

pub loop-at-init : goal.loop-at-init
loop-at-init c =
    let a = c.args in
    let bytes : AreBytes a.b.now = λ j. omega (arith, c.slice_known-1.given j) in
    (underway-begins a.b.now a.bytes.now a.q.0 bytes (sym c.sound.ensures ∙ c.if-not-sound.false), refl)

pub deliver_front-requires : goal.deliver_front-requires
deliver_front-requires c = c.loop-at.invariant.0.sound

pub returns-in-Err : goal.returns-in-Err
returns-in-Err c =
    let a = c.args in
    let l = c.loop-at in
    let s = a.bytes.now in
    let bytes : AreBytes s = λ j. omega (arith, c.type_inv.bytes j) in
    underway-stops a.b.now s a.q.0 l.b l.at l.count bytes l.invariant.0 (omega arith) _ (sym c.sound.ensures ∙ not-false _ c.if-not-sound.false-raw) _
    (behind s l.at c.in-Err.ensures)

pub overflow_add-at : goal.overflow_add-at
overflow_add-at c =
    let a = c.args in
    let l = c.loop-at in
    let s = a.bytes.now in
    let bytes : AreBytes s = λ j. omega (arith, c.type_inv.bytes j) in
    let (low, high) = underway-takes a.b.now s a.q.0 l.b l.at l.count bytes l.invariant.0 (omega arith) _ _ (behind s l.at c.in-Ok.ensures) in
    omega (arith, low, high, l.invariant.0.few)

pub overflow_add-count : goal.overflow_add-count
overflow_add-count c =
    let a = c.args in
    let l = c.loop-at in
    let s = a.bytes.now in
    let bytes : AreBytes s = λ j. omega (arith, c.type_inv.bytes j) in
    let (low, high) = underway-takes a.b.now s a.q.0 l.b l.at l.count bytes l.invariant.0 (omega arith) _ _ (behind s l.at c.in-Ok.ensures) in
    omega (arith, low, high, l.invariant.0.few)

pub loop-at-smaller : goal.loop-at-smaller
loop-at-smaller c =
    let a = c.args in
    let l = c.loop-at in
    let s = a.bytes.now in
    let bytes : AreBytes s = λ j. omega (arith, c.type_inv.bytes j) in
    let (low, high) = underway-takes a.b.now s a.q.0 l.b l.at l.count bytes l.invariant.0 (omega arith) _ _ (behind s l.at c.in-Ok.ensures) in
    omega (arith, low, high, l.invariant.0.few)

pub loop-at-preserved : goal.loop-at-preserved
loop-at-preserved c =
    let a = c.args in
    let l = c.loop-at in
    let s = a.bytes.now in
    let bytes : AreBytes s = λ j. omega (arith, c.type_inv.bytes j) in
    (underway-goes a.b.now s a.q.0 l.b l.at l.count bytes l.invariant.0 (omega arith) _ _ (behind s l.at c.in-Ok.ensures), search rules)

pub returns : goal.returns
returns c =
    let a = c.args in
    let l = c.loop-at in
    underway-ends a.b.now a.bytes.now a.q.0 l.b l.at l.count (sym c.sound.ensures ∙ c.if-not-sound.false) l.invariant.0 (omega arith)
