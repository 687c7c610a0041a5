-- What an edit of an AVI file comes to, as the model has it, and what a planner is told of it (as `avi_model` has it).
use Rattle.std.specs.Prelude.{◌≡◌, ℕ, ◌^◌, List, [], ◌∷◌, ◌++◌, length, map, Bool, true, false, ◌&&◌, codes, Option, Some, None, if◌then◌else◌}
use Rattle.std.specs.List.{flat_map}
use Rattle.part_tree.specs.declared.field.EditItem.{EditItem}
use Rattle.part_tree.specs.Large.{Size, first_above, limited}
use Rattle.field_model.specs.Kind.{IsAccepted}
use Rattle.container_model.specs.Chunk.{Chunk}
use Rattle.container_model.specs.Stood.{Stood}
use Rattle.container_model.specs.Tests.{first}
use Rattle.carrier_model.specs.Info.{is_type}
use Rattle.avi_model.specs.After.{Changes, all_changes, avi_after, children_after, joined_file, parts_after, renumbered_avi}
use Rattle.avi_model.specs.Avi.{avi_of, inner}
use Rattle.avi_model.specs.JoinedSplices.{joined_cuts}
use Rattle.avi_model.specs.Kind.{avi_kind}
use Rattle.avi_model.specs.After.{is_idle}
use Rattle.avi_model.specs.Large.{Check, at_most}
use Rattle.avi_model.specs.NewFile.{new_children}
use Rattle.avi_model.specs.RoomAfter.{lists_fit, names_fit, patches_of}
use Rattle.avi_model.specs.Support.{infos, list_limit}
use Rattle.unit_plan.specs.Cuts.{cut_in}
use Rattle.unit_plan.specs.Sized.{spliced_len}
use Rattle.unit_plan.specs.declared.row.UnitCuts.{UnitCuts}
use Rattle.avi_plan.specs.declared.form.FormAt.{FormAt}
use Rattle.avi_plan.specs.declared.units.Passed.{Passed}
use Rattle.avi_plan.specs.Drops.{Drops}
use Rattle.avi_plan.specs.Form.{sizes}
use Rattle.avi_plan.specs.Patched.{placed_patches}

-- ---- an edit that is planned

-- the bodies of some chunks
abbrev pub bodies : (Chunk → Bool) → List Chunk → List (List ℕ)
bodies test cs = flat_map (λ c. if test c then c.body ∷ [] else []) cs

-- the lengths of the lists of fields after the edit, with their limit
abbrev pub list_sizes : List ℕ → List EditItem → List Size
list_sizes b e = map (λ (x : List ℕ). limited (2 ^ 24) (length x)) (bodies (is_type (codes "INFO")) (new_children (avi_of b) (all_changes b e).infos))

-- An edit that breaks no basic rule, that changes something, and of which no list is too large.
pub record IsListed (b : List ℕ) (e : List EditItem) : Type 0 where
  pub accepted : IsAccepted avi_kind b e
  pub effect : is_idle (all_changes b e) ≡ false
  pub lists : first_above (list_sizes b e) ≡ None

-- ---- what it comes to

-- what is tested of the new lists of fields
abbrev pub list_checks : List ℕ → Changes → List Check
list_checks b c = map (λ (x : Stood). at_most list_limit (length x.chunk.body)) (infos (avi_after b c))

-- Its spans with that of the form's pad, whether its units fit, all parts that the new file has, and the form's size then. A span
-- that puts back what stands there may be left out.
pub record ComesTo (b : List ℕ) (c : Changes) (f : FormAt) (n : ℕ) (u : UnitCuts) : Type 0 where
  pub size : n ≡ length (inner (children_after (avi_of b) c) (avi_of b).left)
  pub cuts_are : Drops b (joined_cuts (avi_of b) c) (map (cut_in b) u.cuts.items)
  pub parts_are : u.parts ≡ parts_after (renumbered_avi b c) c
  pub fits : u.fits ≡ (names_fit (avi_of b) c.names && lists_fit (avi_of b) c)
  pub patches : u.fits ≡ true → placed_patches (sizes f n ++ u.cuts.items) ≡ patches_of (avi_of b) c
  pub long : spliced_len f.len (sizes f n ++ u.cuts.items) ≡ length (joined_file b c)
  pub lists : first (list_checks b c) ≡ None

-- a size with the limit that it passes
abbrev pub passed : Option Passed → Option Size
passed None = None
passed (Some p) = Some (limited p.limit p.size)
