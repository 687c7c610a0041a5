-- What a kind of files is to an edit, what an edit makes of a file of a kind, and the laws that each kind has (this project's own).
use Rattle.std.specs.Prelude.{◌≡◌, ◌⊎◌, ◌≤◌, ◌-◌, ◌^◌, ℕ, Bool, true, List, [], length, Option, None}
use Rattle.std.specs.List.{AllByRecursion}
use Rattle.me_bytes.specs.Bytes.{IsBytes}
use Rattle.part_tree.specs.Large.{Size}
use Rattle.part_tree.specs.Names.{IsFieldName}
use Rattle.part_tree.specs.Order.{SoundPatches}
use Rattle.part_tree.specs.Patches.{laid, most_patches}
use Rattle.part_tree.specs.declared.field.EditItem.{EditItem}
use Rattle.part_tree.specs.declared.field.FieldName.{FieldName}
use Rattle.part_tree.specs.declared.field.RuleSet.TheVariants.{Base}
use Rattle.part_tree.specs.declared.names.Kind.{Kind}
use Rattle.part_tree.specs.declared.names.Span.{Span}
use Rattle.part_tree.specs.declared.part.Part.{Part}
use Rattle.part_tree.specs.declared.shows.Track.{Track}
use Rattle.part_tree.specs.declared.plan.Patch.{Patch}
use Rattle.part_tree.specs.declared.why.Why.{Why}
use Rattle.field_model.specs.Broken.{broken}
use Rattle.field_model.specs.Fields.{FieldMap}
use Rattle.field_model.specs.Lawful.{IsLawful}
use Rattle.field_model.specs.Update.{effective, update}

-- A kind of files.
pub record KindModel : Type 1 where
  -- what an edit keeps of a file, and what the file's own tables find in it
  pub Kept : Type 0
  pub Pieces : Type 0
  -- the kind of a file by its first bytes, and why a file isn't supported: the first refusal, that of another kind among them
  pub kind : List ℕ → Kind
  pub why : List ℕ → Option Why
  -- the values of each field, and how many streams can have fields of their own
  pub fields : List ℕ → FieldMap
  pub streams : List ℕ → ℕ
  -- the parts in the order of reading, each rest and the tail among them
  pub parts : List ℕ → List Part
  -- the ranges of the essence, and the one whose checksum is told
  pub essence : List ℕ → List Span
  pub hashed : List ℕ → Option Span
  -- how many entries of indexes are counted, and the tables of each track
  pub entries : List ℕ → Option ℕ
  pub tracks : List ℕ → List Track
  -- the new file, and the first size in it that passes its limit
  pub new_file : List ℕ → List EditItem → List ℕ
  pub too_large : List ℕ → List EditItem → Option Size
  -- whether the edit has room in place, and the patches that make the new file there
  pub has_room : List ℕ → List EditItem → Bool
  pub patches : List ℕ → List EditItem → List Patch
  -- what is kept of a file, and what an edit makes of it
  pub kept : List ℕ → Kept
  pub placed : List ℕ → List EditItem → Kept → Kept
  pub pieces : List ℕ → Pieces
  -- what else holds between the old file, the edit and the new file
  pub Also : List ℕ → List EditItem → List ℕ → Type 0

-- an edit of which each item names a field
abbrev pub NamesFields : List EditItem → Type 0
NamesFields e = AllByRecursion (λ i. IsFieldName i.name) e

-- an edit that breaks no basic rule
abbrev pub IsAccepted : KindModel → List ℕ → List EditItem → Type 0
IsAccepted k o e = broken (k.kind o) (k.streams o) (k.fields o) e Base ≡ None

-- What the new file is to the old one: it is supported; its fields read back as the old ones updated, at each field's name, and
-- at every name where each item names a field; all else is kept in order; the tables find the same; and an edit without effect
-- changes nothing.
pub record Edited (k : KindModel) (o : List ℕ) (e : List EditItem) (n : List ℕ) : Type 0 where
  pub supported : k.why n ≡ None
  pub reads_back : (name : FieldName) → IsFieldName name ⊎ NamesFields e → k.fields n name ≡ update (k.fields o) e name
  pub kept_in_order : k.kept n ≡ k.placed o e (k.kept o)
  pub same_pieces : k.pieces n ≡ k.pieces o
  pub also : k.Also o e n
  pub no_effect : effective (k.fields o) e ≡ [] → n ≡ o

-- Patches that make the new file in place: laid over the old one at the new length; in order, inside the new length, of at most
-- 16 MiB, over all that the file gains; and at most 65,536.
pub record MakeInPlace (o n : List ℕ) (ps : List Patch) : Type 0 where
  pub makes : laid (length n) ps o ≡ n
  pub sound : SoundPatches (length o) (length n) ps
  pub few : length ps ≤ most_patches

-- an edit and another one that come to the same
pub record SameEdit (k : KindModel) (o : List ℕ) (e all : List EditItem) : Type 0 where
  pub same_file : k.new_file o e ≡ k.new_file o all
  pub same_size : k.too_large o e ≡ k.too_large o all
  pub same_room : k.has_room o e ≡ k.has_room o all
  pub same_patches : k.patches o e ≡ k.patches o all

-- The laws of a kind. For each supported list of bytes:
pub record IsKind (k : KindModel) : Type 0 where
  -- an accepted edit that isn't too large makes the old file edited
  pub edited : (o : List ℕ) (e : List EditItem) → IsBytes o → k.why o ≡ None → IsAccepted k o e → k.too_large o e ≡ None → Edited k o e (k.new_file o e)
  -- an edit without effect makes the same file, and is never too large
  pub idle : (o : List ℕ) (e : List EditItem) → IsBytes o → k.why o ≡ None → effective (k.fields o) e ≡ [] → (k.new_file o e ≡ o) × (k.too_large o e ≡ None)
  -- where an edit has room and isn't too large, its patches make the new file in place
  pub in_place : (o : List ℕ) (e : List EditItem) → IsBytes o → k.why o ≡ None → k.too_large o e ≡ None → k.has_room o e ≡ true → MakeInPlace o (k.new_file o e) (k.patches o e)
  -- the new file of an edit with an effect has at most 2^63-1 bytes
  pub no_larger : (o : List ℕ) (e : List EditItem) → IsBytes o → k.why o ≡ None → k.too_large o e ≡ None → (effective (k.fields o) e ≡ []) ⊎ (length (k.new_file o e) ≤ 2 ^ 63 - 1)
  -- the items that have an effect come to the same as all items
  pub by_effect : (o : List ℕ) (e all : List EditItem) → e ≡ effective (k.fields o) all → SameEdit k o e all
  -- each field of `bext` is there, as long as its range, or none is; each value of a key has its type and locale
  pub lawful : (o : List ℕ) → IsBytes o → k.why o ≡ None → IsLawful (k.fields o)
