-- What bytes can hold: the numbers of a list are bytes, and a view, a list of views or a frame has its fields within
-- their widths.
use Rattle.std.specs.Prelude.{◌≡◌, List, ℕ, ◌^◌, ◌<◌, length, get_or}
use Rattle.views.specs.declared.View.{View}
use Rattle.views.specs.Limits.{max_views}
use Rattle.views.specs.Lists.{id_of, no_view, list_of}
use Rattle.wire.specs.declared.Message.TheVariants.{Client}
use Rattle.wire.specs.declared.Frame.{Frame}

-- every byte is one; past the end stands 0
abbrev pub AreBytes : List ℕ → Type 0
AreBytes b = (j : ℕ) → get_or b j 0 < 256

pub record ViewFits (v : View) : Type 0 where
  pub id : id_of v < 256 ^ 4
  pub set : v.set < 256

-- each view of a list: past its end stands the zero view, which fits
abbrev pub EachFits : List View → Type 0
EachFits l = (j : ℕ) → ViewFits (get_or l j no_view)

-- a frame's fields, and its views have their 32 places
pub record Fits (f : Frame) : Type 0 where
  pub view : f.view.0 < 256 ^ 4
  pub entry : (x : ℕ) → f.message ≡ Client x → x < 256 ^ 8
  pub each : EachFits (list_of f.views)
  pub room : length f.views.at ≡ max_views
