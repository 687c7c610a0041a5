-- A disk of files in memory, by what they held since they were last made safe, and what a power cut leaves of them.
use Rattle.std.specs.Prelude.{◌≡◌, ◌⊎◌, ℕ, ◌+◌, ◌-◌, ◌/◌, ◌%◌, ◌==◌, nat_lt, if◌then◌else◌, List, [], ◌∷◌, length, map, slice_get, Option, None, Some}
use Rattle.std.specs.Option.{option_and_then, option_map}
use Rattle.std.specs.declared.vec.Vec.{Vec}
use Rattle.std.specs.declared.alloc.Global.{Global}
use Rattle.me_disk.specs.declared.depot.Slot.{Slot}
use Rattle.me_disk.specs.declared.depot.Slot.TheVariants.{Main, Journal, Work}

-- Three names and some files. Of each the list of what it was since it was last made safe, the newest last.
pub record Power : Type 0 where
  -- the contents of each file
  pub files : List (List (List ℕ))
  -- the number of the file that each name stands for
  pub main : List (Option ℕ)
  pub journal : List (Option ℕ)
  pub work : List (Option ℕ)
  -- how many more calls that change it are done
  pub calls : ℕ

-- the newest of them
abbrev pub newest : {A : Type 0} → List A → Option A
newest xs = slice_get xs (length xs - 1)

-- what a name was
abbrev pub names : Slot → Power → List (Option ℕ)
names Main p = p.main
names Journal p = p.journal
names Work p = p.work

-- the number of the file that a name stands for
abbrev pub file_of : Slot → Power → Option ℕ
file_of name p = option_and_then (λ (file : Option ℕ). file) (newest (names name p))

-- the newest content of a file
abbrev pub content_of : List (List (List ℕ)) → Option ℕ → Option (List ℕ)
content_of files None = None
content_of files (Some n) = option_and_then (λ (contents : List (List ℕ)). newest contents) (slice_get files n)

-- what a read of the name gives
abbrev pub held : Slot → Power → Option (List ℕ)
held name p = content_of p.files (file_of name p)

-- one of these two files stands there, and nothing beside it
pub record HoldsOne (old new : List ℕ) (p : Power) : Type 0 where
  pub main : (held Main p ≡ Some old) ⊎ (held Main p ≡ Some new)
  pub journal : held Journal p ≡ None
  pub work : held Work p ≡ None

-- what a vector of contents holds
abbrev pub contents_of : Vec (Vec ℕ Global) Global → List (List ℕ)
contents_of v = map (λ (content : Vec ℕ Global). content.items) v.items

-- ---- a power cut

-- the byte, or garbage where the other is not the same
abbrev pub kept_byte : ℕ → Option ℕ → ℕ
kept_byte b None = 238
kept_byte b (Some c) = if c == b then b else 238

-- the first of the two, with garbage wherever the second is not the same
abbrev pub garbled : List ℕ → List ℕ → List ℕ
garbled [] other = []
garbled (b ∷ bs) [] = kept_byte b None ∷ garbled bs []
garbled (b ∷ bs) (c ∷ cs) = kept_byte b (Some c) ∷ garbled bs cs

-- what a cut within the change from one content to the next leaves
abbrev pub mixed : List ℕ → List ℕ → List ℕ
mixed before after = if nat_lt (length before) (length after) then garbled after before else garbled before after

-- what is left of contents: at an even step one of them, at an odd one a mix of two
abbrev pub torn : List (List ℕ) → ℕ → Option (List ℕ)
torn contents step =
    option_and_then (λ (before : List ℕ). if (step % 2) == 0 then Some before else option_map (mixed before) (slice_get contents (step / 2 + 1))) (slice_get contents (step / 2))

-- the one that is so many before the newest
abbrev pub from_back : {A : Type 0} → List A → ℕ → Option A
from_back xs back = if nat_lt back (length xs) then slice_get xs (length xs - 1 - back) else None

-- what is left of the file of this number
abbrev pub file_left : List (List (List ℕ)) → ℕ → ℕ → Option (List ℕ)
file_left files n step = option_and_then (λ (contents : List (List ℕ)). torn contents step) (slice_get files n)

-- what is left of a file, or of none
abbrev pub left_by : List (List (List ℕ)) → ℕ → Option ℕ → Option (Option (List ℕ))
left_by files step None = if step == 0 then Some None else None
left_by files step (Some n) = option_map Some (file_left files n step)

-- what is left under a name that was all these, or none where there is no such remainder
abbrev pub left_under : List (List (List ℕ)) → List (Option ℕ) → ℕ → ℕ → Option (Option (List ℕ))
left_under files was back step = option_and_then (left_by files step) (from_back was back)
