-- Every history is one of hosts that work in turns: a turn of one call, saved and published at once, leaves what the call leaves.
use mathlib.Core.Path.{◌≡◌, refl, sym, ap, subst, ◌∙◌, fun_ext}
use mathlib.Core.List.{List, [], ◌++◌, append-nil}
use Prim.Native.Nat.{ℕ, ◌<◌}
use Rattle.views.specs.Points.{at}
use Rattle.views.proofs.PointLaws.{upd-ind2, upd-here, upd-again}
use Rattle.rules.specs.Data.{Member, Event, Result, refused, accepted}
use Rattle.rules.specs.Member.{Passing}
use Rattle.member.specs.Calls.{pass_call}
use Rattle.member.specs.Hosts as H
use Rattle.member.specs.Hosts.{World, called, shows, passed, Call, History}
use Rattle.member.specs.HostTurns as T
use Rattle.member.specs.HostTurns.{Turn, idle, Hosts, with_turn, seen, quiet, called_in, passed_in, remembered, Worked, HistoriesTurns}
use Rattle.member.proofs.Hosts.Turns.{idle-turn, called-turn, passed-turn}

module _ (n S : ℕ) where
  silent : {h : Hosts} {l : List (Event ℕ)} → Worked n S h (l ++ []) → Worked n S h l
  silent {h} {l} a = subst (λ (k : List (Event ℕ)). Worked n S h k) (append-nil l) a

  module _ (w : World) (p : Member) (i : p < n) where
    abbrev b : List ℕ
    b = w.books p

    abbrev nothing : Member → Turn
    nothing q = idle (w.books q)

    -- what is done in one turn is saved and published
    published : (l : List (Event ℕ)) (m : Turn) → Worked n S (remembered (quiet w) p m) l → Worked n S (quiet (with_turn w p m)) (l ++ m.events)
    published l m a =
        let saved : Worked n S (record { world = w; disk = at p m nothing; memory = at p (idle m.book) (at p m nothing) }) l
        = silent (subst (λ (c : Turn). Worked n S (record { world = w; disk = at p (T.followed (idle b) c) nothing; memory = at p (idle c.book) (at p m nothing) }) (l ++ []))
        (upd-here p m nothing) (T.then a (T.save p))) in
        let out : Worked n S (record { world = with_turn w p m; disk = at p (idle m.book) (at p m nothing); memory = at p (idle m.book) (at p m nothing) }) (l ++ m.events)
        = subst (λ (c : Turn). Worked n S (record { world = with_turn w p c; disk = at p (idle c.book) (at p m nothing); memory = at p (idle m.book) (at p m nothing) }) (l ++ c.events))
        (upd-here p m nothing) (T.then saved (T.publish p i)) in
        let same : at p (idle m.book) (at p m nothing) ≡ (λ (q : Member). idle (at p m.book w.books q))
        = upd-again p m (idle m.book) nothing
        ∙ fun_ext (upd-ind2 p (idle m.book) nothing m.book w.books (λ q t c. t ≡ idle c) refl (λ q _. refl)) in
        subst (λ (f : Member → Turn). Worked n S (record { world = with_turn w p m; disk = f; memory = f }) (l ++ m.events)) same out

    same_seen : seen (quiet w) p ≡ w
    same_seen = idle-turn p (with_turn w p (idle b)) b (upd-here p b w.books) ∙ idle-turn p w b refl

    after_call : (l : List (Event ℕ)) {r : Result _} {new : List ℕ} → Worked n S (quiet w) l → Call n w p r new → Worked n S (quiet (called w p r new)) (l ++ shows r)
    after_call l {r} {new} a c =
        let done = silent (T.then a (T.call p i (subst (λ (t : World). Call n t p r new) (sym same_seen) c))) in
        let there : with_turn w p (called_in (idle b) r new) ≡ called w p r new
        = sym (called-turn p w (idle b) r new) ∙ ap (λ (t : World). called t p r new) (idle-turn p w b refl) in
        subst (λ (t : World). Worked n S (quiet t) (l ++ shows r)) there (published l (called_in (idle b) r new) done)

    after-pass : (l : List (Event ℕ)) (room : ℕ) → Worked n S (quiet w) l → Worked n S (quiet (passed w p (pass_call room b))) (l ++ [])
    after-pass l room a = go (pass_call room b) (published l _ (silent (T.then a (T.pass p i room))))
      where
        go : (r : Result Passing) → Worked n S (quiet (with_turn w p (passed_in (idle b) r))) (l ++ (passed_in (idle b) r).events) → Worked n S (quiet (passed w p r)) (l ++ [])
        go (refused f) k = subst (λ (t : World). Worked n S (quiet t) (l ++ [])) (idle-turn p w b refl) k
        go (accepted x) k =
            let r : Result Passing = accepted x in
            let there : with_turn w p (passed_in (idle b) r) ≡ passed w p r
            = sym (passed-turn p w (idle b) r) ∙ ap (λ (t : World). passed t p r) (idle-turn p w b refl) in
            subst (λ (t : World). Worked n S (quiet t) (l ++ [])) there k

pub histories-turns : HistoriesTurns
histories-turns n S w l (H.begin lent i s) = T.begin lent i s
histories-turns n S w l (H.then {w = u} {l = k} h (H.exist v fit new)) = T.then (histories-turns n S u k h) (T.carry (H.exist v fit new) refl)
histories-turns n S w l (H.then {w = u} {l = k} h (H.call p i c)) = after_call n S u p i k (histories-turns n S u k h) c
histories-turns n S w l (H.then {w = u} {l = k} h (H.pass p i room)) = after-pass n S u p i k room (histories-turns n S u k h)
histories-turns n S w l (H.then {w = u} {l = k} h (H.order p g bytes rest e)) = T.then (histories-turns n S u k h) (T.carry (H.order p g bytes rest e) refl)
