-- What stands round the chunks of the first form of an AVI file: its size, its pad and what is behind it (RIFF; when there is a pad is
-- this project's own).
use Rattle.std.specs.Prelude.{◌≡◌, ◌≤◌, ◌<◌, ◌^◌, ℕ, ◌+◌, ◌%◌, ◌==◌, nat_lt, List, [], ◌∷◌, length, Bool, false, ◌&&◌, if◌then◌else◌}
use Rattle.std.specs.Str.{bytes_eq}
use Rattle.carrier_model.specs.RiffForm.{new_pad}
use Rattle.unit_plan.specs.Sized.{size_at}
use Rattle.unit_plan.specs.declared.cut.CutAt.{CutAt}
use Rattle.avi_model.specs.Avi.{avi_of, behind, hdrls, inner, others_at, strls}
use Rattle.avi_model.specs.Support.{Supported, count_kids}
use Rattle.avi_plan.specs.declared.form.FormAt.{FormAt}

-- The file is supported, and its first form is told: the file's length, the form's, and how many chunks stand elsewhere.
pub record IsFormOf (b : List ℕ) (f : FormAt) : Type 0 where
  pub supported : Supported b
  pub len : f.len ≡ length b
  pub size : f.size ≡ length (inner (avi_of b).children (avi_of b).left)
  pub others : f.others ≡ count_kids (hdrls (avi_of b)) + (count_kids (strls (avi_of b)) + count_kids (others_at (avi_of b)))

-- whatever the file: the form has its type, and lies in a file that a depot can hold
pub record IsSoundForm (f : FormAt) : Type 0 where
  pub small : f.len < 2 ^ 63
  pub low : 4 ≤ f.size
  pub inside : 8 + f.size ≤ f.len

-- the length of the form's pad, and with a body of another length
abbrev pub pad_now : FormAt → ℕ
pad_now f = if (f.size % 2 == 1) && nat_lt (8 + f.size) f.len then 1 else 0

abbrev pub pad_after : FormAt → ℕ → ℕ
pad_after f n = if n == f.size then pad_now f else (if (n % 2 == 1) && nat_lt (8 + f.size + pad_now f) f.len then 1 else 0)

-- whether the pad is the same bytes then
abbrev pub keeps_pad : List ℕ → FormAt → ℕ → Bool
keeps_pad b f n = bytes_eq (avi_of b).pad (new_pad f.size n (avi_of b).pad (behind (avi_of b)))

-- the span of the pad, unless it stays
abbrev pub pads : FormAt → ℕ → Bool → List CutAt
pads f n stays =
    if stays then []
    else record { span = record { at = 8 + f.size; len = pad_now f }; bytes = if pad_after f n == 1 then 0 ∷ [] else []; keep = 0 } ∷ []

-- the span of the size, where it changes
abbrev pub sizes : FormAt → ℕ → List CutAt
sizes f n = if n == f.size then [] else size_at false n ∷ []
