-- The spans of an edit with those of the form's size and pad (this project's own).
use Rattle.std.specs.Prelude.{ℕ, ◌+◌, ◌==◌, List, [], ◌∷◌, ◌++◌, replicate, ◌&&◌, if◌then◌else◌, Option, Some, None}
use Rattle.unit_plan.specs.declared.cut.CutAt.{CutAt}
use Rattle.unit_plan.specs.Sized.{size_at}
use Rattle.wave_plan.specs.declared.frame.Frame.{Frame}
use Rattle.wave_plan.specs.Frame.{pad_after}

-- the form's pad, where there is one before or after
abbrev pub pad_cuts : Frame → ℕ → List CutAt
pad_cuts f n =
    if (f.pad == 0) && (pad_after f n == 0) then []
    else record { span = record { at = 8 + f.size; len = f.pad }; bytes = replicate (pad_after f n) 0; keep = 0 } ∷ []

-- the size and the pad round the units, where the size changes
abbrev pub framed : Frame → ℕ → List CutAt → List CutAt
framed f n units = if n == f.size then units else size_at f.wide n ∷ (units ++ pad_cuts f n)

-- a span that there may be
abbrev pub found_list : Option CutAt → List CutAt
found_list None = []
found_list (Some k) = k ∷ []
