-- The patches in place of spans that fit there; more than one of them may end the file (this project's own).
use Rattle.std.specs.Prelude.{◌⊎◌, ℕ, ◌+◌, ◌-◌, List, [], ◌∷◌, ◌++◌, length}
use Rattle.std.specs.List.{AllByRecursion}
use Rattle.part_tree.specs.declared.plan.Patch.{Patch}
use Rattle.carrier_model.specs.Room.{patch}
use Rattle.unit_plan.specs.Cuts.{EndsFile, IsExact}
use Rattle.unit_plan.specs.declared.cut.CutAt.{CutAt}

-- Each stands where its bytes stand in the new file, in which the old byte at a place stands at another; no bytes are no patch.
abbrev pub patches_from : ℕ → ℕ → List CutAt → List Patch
patches_from from to [] = []
patches_from from to (k ∷ ks) = patch (to + (k.span.at - from)) k.bytes ++ patches_from (k.span.at + k.span.len) (to + (k.span.at - from) + (length k.bytes + k.keep)) ks

abbrev pub placed_patches : List CutAt → List Patch
placed_patches ks = patches_from 0 0 ks

-- each is exact, but that the last ones may end a file of so many bytes
abbrev pub FitsOn : ℕ → List CutAt → Type 0
FitsOn len [] = Unit {0}
FitsOn len (k ∷ ks) = (IsExact k ⊎ (EndsFile len k × AllByRecursion (EndsFile len) ks)) × FitsOn len ks
