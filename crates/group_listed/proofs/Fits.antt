-- The views of a list by value are within their widths, as its type says.
use mathlib.Core.List.{List, [], ◌∷◌}
use Prim.Native.Nat.{zero, suc}
use lib.Dec.{lit<}
use mir.Val.{Val}
use denote.Laws.{Is}
use denote.Shadow.{shadow}
use denote.Array.{each}
use denote.Struct.Laws as LL
use Rattle.views.specs.declared.View.{View}
use Rattle.views.specs.declared.list.Views.{Views}
use Rattle.views.specs.contracts.View as T
use Rattle.views.proofs.View.TheLaws as T'
use Rattle.views.specs.contracts.ViewId as I
use Rattle.views.proofs.ViewId.TheLaws as I'
use Rattle.views.specs.contracts.list.Views as L
use Rattle.views.proofs.list.Views.TheLaws as L'
use Rattle.wire.proofs.TripViews.{ViewFits, EachFits}

view-fits : (v : View) (w : Val) → Is T.the_row v (w ∷ []) → ViewFits v
view-fits v w g =
    let f = LL.owed T.the_type T'.the_laws v _ g in
    record { id = (LL.owed I.the_type I'.the_laws v.id _ f.0).0.1; set = f.1.0.1 }

each_fits : (xs : List View) (us : List Val) → shadow (each (T.the_row).Denot (T.the_row).own_val xs us) → EachFits xs
each_fits [] [] g j = record { id = lit< tt; set = lit< tt }
each_fits [] (u ∷ us) g j = absurd g
each_fits (x ∷ xs) [] g j = absurd g
each_fits (x ∷ xs) (u ∷ us) g zero = view-fits x u g.0
each_fits (x ∷ xs) (u ∷ us) g (suc j) = each_fits xs us g.1 j

pub views-fit : (l : Views) (w : Val) → Is L.the_row l (w ∷ []) → EachFits l.at
views-fit l w g = let f = (LL.owed L.the_type L'.the_laws l _ g).1.0 in each_fits l.at f.0 f.1.1
