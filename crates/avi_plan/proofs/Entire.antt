-- All that the places of the first form and the names come to.
use Rattle.std.proofs.Common.{◌≡◌, ◌∙◌, ◌⊎◌, ℕ, ◌+◌, ◌≤◌, Bool, true, eqb, List, ◌++◌, map, sym, ap, subst, arith}
use Rattle.std.specs.List.{AllByRecursion}
use Rattle.me_bytes.specs.Bytes.{IsBytes}
use Rattle.part_tree.specs.declared.field.EditItem.{EditItem}
use Rattle.avi_model.specs.After.{all_changes, children_after}
use Rattle.avi_model.specs.Avi.{avi_of}
use Rattle.avi_model.specs.Named.{hdrl_named}
use Rattle.avi_model.specs.NewFile.{new_cells}
use Rattle.avi_model.specs.Support.{SupportedNames}
use Rattle.avi_model.proofs.NamedAlike.{not_info}
use Rattle.unit_plan.specs.Cuts.{FitsIn, IsExact, SpansAscend, cut_in, outcome_in}
use Rattle.unit_plan.specs.Places.{Follow, shape_in}
use Rattle.unit_plan.specs.Rows.{Outcome, none, row}
use Rattle.unit_plan.specs.Shapes.{parts_in}
use Rattle.unit_plan.specs.Sized.{spliced_len}
use Rattle.unit_plan.specs.declared.cut.CutAt.{CutAt}
use Rattle.unit_plan.specs.declared.place.Place.{Place}
use Rattle.unit_plan.specs.declared.row.UnitCuts.{UnitCuts}
use Rattle.avi_plan.specs.declared.form.FormAt.{FormAt}
use Rattle.avi_plan.specs.declared.names.NamesAt.{NamesAt}
use Rattle.avi_plan.specs.Comes.{ComesTo, IsListed}
use Rattle.avi_plan.specs.Drops.{Drops}
use Rattle.avi_plan.specs.Form.{IsFormOf, IsSoundForm, keeps_pad, pads, sizes}
use Rattle.avi_plan.specs.NamesAt.{AreNames, StandNames}
use Rattle.avi_plan.specs.Patched.{placed_patches}
use Rattle.avi_plan.specs.Row.{IsJoined, part_count, told_row}
use Rattle.avi_plan.proofs.Coming.{cuts_drop, fits_told, fs, halves, model_is, size_told, swap, units_are}
use Rattle.avi_plan.proofs.Laying.{long_told, patches_told}
use Rattle.avi_plan.proofs.NamesDrop.{names_drop}
use Rattle.avi_plan.proofs.Parted.{lists_told, parts_told}

pub comes_to : (b : List ℕ) (e : List EditItem) (bytes : IsBytes b) (sup : SupportedNames b) (f : FormAt) (known : IsFormOf b f) (sound : IsSoundForm f) (names : NamesAt) (are : AreNames b (all_changes b e).names names) (stand : StandNames f.len names)
    (end : ℕ) (high : end ≤ 8 + f.size) (ps : List Place) (follow : Follow 12 ps end) (units u : UnitCuts) (asc : SpansAscend 12 units.cuts.items end) (ends : Bool) (ends_is : ends ≡ eqb end f.len)
    (out : outcome_in b units ≡ row ends 12 none (map (shape_in b) ps)) (shapes : map (shape_in b) ps ≡ told_row names.lacks_pad (new_cells (avi_of b) (all_changes b e).infos)) (j : IsJoined f.others end names units u)
    (n : ℕ) (sum : n + f.len ≡ spliced_len f.len u.cuts.items + f.size) (stays : Bool) (stays_is : stays ≡ keeps_pad b f n) → (n ≡ f.size → stays ≡ true) → (f.len ≡ 8 + f.size → stays ≡ true)
    → (units.fits ≡ true → AllByRecursion IsExact units.cuts.items ⊎ ((end ≡ f.len) × FitsIn f.len units.cuts.items))
    → IsListed b e → (v : UnitCuts) → v.cuts.items ≡ u.cuts.items ++ pads f n stays → v.fits ≡ u.fits → v.parts ≡ u.parts → ComesTo b (all_changes b e) f n v
comes_to b e bytes sup f known sound names are stand end high ps follow units u asc ends ends_is out shapes j n sum stays stays_is still last how listed v items fits count =
    let s = sup.file in
    let c = all_changes b e in
    let a = avi_of b in
    let first = fs b bytes s c f known sound names are stand end high ps follow units u asc ends ends_is out shapes j in
    let size = size_told b bytes s c f known sound names are stand end high ps follow units u asc ends ends_is out shapes j n sum in
    let H = halves b bytes s c f known sound names are stand end high ps follow units u asc ends ends_is out shapes j in
    let units_parts : units.parts ≡ parts_in part_count (children_after a c)
    = ap (λ (o : Outcome). o.parts) (units_are b bytes s c f known sound names are stand end high ps follow units u asc ends ends_is out shapes j) ∙ H.parts ∙ ap (λ (o : Outcome). o.parts) (model_is b bytes s c f known sound names are stand end high ps follow units u asc ends ends_is out shapes j) in
    record {
      size = size;
      cuts_are =
          subst (λ (ks : List CutAt). Drops b (Rattle.avi_model.specs.JoinedSplices.joined_cuts a c) (map (cut_in b) ks)) (sym items)
          (cuts_drop b bytes s c f known sound names are stand end high ps follow units u asc ends ends_is out shapes j n size stays stays_is (names_drop b bytes s c.names));
      parts_are = omega (arith, count, j.parts, units_parts, parts_told b bytes s c, are.parts, known.others);
      fits = fits ∙ fits_told b bytes s c f known sound names are stand end high ps follow units u asc ends ends_is out shapes j;
      patches = λ fit.
          ap (λ (ks : List CutAt). placed_patches (sizes f n ++ ks)) items ∙ patches_told b bytes s c f known sound names are stand end high ps follow units u asc ends ends_is out shapes j n sum stays stays_is still last how (sym fits ∙ fit);
      long = ap (λ (ks : List CutAt). spliced_len f.len (sizes f n ++ ks)) items ∙ long_told b bytes s c f known sound names are stand end high ps follow units u asc ends ends_is out shapes j n sum stays stays_is;
      lists =
          lists_told b bytes s c first.hdrl (hdrl_named c.names first.ends first.hdrl) first.front (not_info first.hdrl first.typed) (not_info (hdrl_named c.names first.ends first.hdrl) first.typed_new)
          (swap b bytes s c f known sound names are stand end high ps follow units u asc ends ends_is out shapes j) ∙ listed.lists;
    }
