-- Two plans that make the same file of 72 bytes out of a worked one of 48 bytes: patches of 4 bytes at 4 and of 24 bytes at 48,
-- and a rewrite of ranges and bytes.
use Rattle.std.specs.Prelude.{◌≡◌, ℕ, List, [], ◌∷◌, length, replicate, Option, None, Some}
use Rattle.part_tree.specs.declared.plan.Patch.{Patch}
use Rattle.part_tree.specs.declared.plan.Plan.{Plan}
use Rattle.part_tree.specs.declared.plan.Plan.TheVariants.{InPlace, Rewrite}
use Rattle.part_tree.specs.declared.plan.Segment.TheVariants.{Copy, Literal}
use Rattle.part_tree.specs.Plans.{applied}
use Rattle.edit_journal.specs.Strips.{Strip}
use Rattle.edit_journal.specs.Journal.{version_of, Spells}
use Rattle.edit_journal.specs.declared.fault.JournalHead.{JournalHead}
use Rattle.crash_rows.specs.declared.bytes.TheConstants.{FILE, SIZE, LIST}

-- the file before the edit
unfoldable pub file : List ℕ
file = FILE

-- the patches of the edit in place
unfoldable pub patches : List Patch
patches = record { at = 4; bytes = SIZE } ∷ record { at = 48; bytes = LIST } ∷ []

-- the edit in place
unfoldable pub in_place : Plan
in_place = InPlace 48 72 patches

-- the rewrite, of which two segments are empty
unfoldable pub rewrite : Plan
rewrite = Rewrite 72 [] (Copy (record { at = 0; len = 4 }) ∷ Literal [] ∷ Literal SIZE ∷ Copy (record { at = 8; len = 0 }) ∷ Copy (record { at = 8; len = 40 }) ∷ Literal LIST ∷ [])

-- the file after the edit in place
unfoldable pub titled_file : List ℕ
titled_file = applied in_place file

-- the header is that of a whole journal with these bytes
pub record IsJournalOf (head : JournalHead) (b : List ℕ) : Type 0 where
  pub strips : List Strip
  pub journal : Spells (version_of head.version) b head.old_len head.new_len strips
  pub count : head.count ≡ length strips
  pub len : head.len ≡ length b

-- a file of so many zeros, where there is one
abbrev pub zeros : Option ℕ → Option (List ℕ)
zeros None = None
zeros (Some n) = Some (replicate n 0)
