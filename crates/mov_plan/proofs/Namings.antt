-- A row has room for its new place.
use Rattle.std.proofs.Common.{◌≡◌, ◌∙◌, ℕ, zero, suc, ◌+◌, ◌≤◌, ◌<◌, ◌^◌, Bool, true, false, cond, List, length, take, drop, None, Some, refl, sym, ap, subst, arith, leb, ltb}
use Rattle.std.specs.Prelude.{◌&&◌}
use Rattle.std.specs.Int.{w32, w64, from_be_bytes}
use Rattle.std.proofs.lemmas.Bool.{le-leb, lt-ltb}
use Rattle.std.proofs.lemmas.List.{drop-drop, length-drop, length-take}
use Rattle.me_bytes.specs.Bytes.{be}
use Rattle.part_tree.specs.Moves.{Move}
use Rattle.part_tree.specs.Tables.{RowsNamed, misfit, moved}
use Rattle.part_tree.specs.declared.table.TableForm.TheVariants.{Chunks32, Chunks64}
use Rattle.mov_plan.specs.Made.{IsNamed}
use Rattle.mov_plan.specs.Tables.{form_of, width_of}
use Rattle.mov_plan.specs.declared.tables.TableAt.{TableAt}
use Rattle.mov_plan.proofs.Rowed.{be_eight, be_four, take_self}

fits_by : (bound x : ℕ) → x < bound → cond (leb 0 x && ltb x bound) None (Some x) ≡ None
fits_by bound x h = ap (λ (t : Bool). cond (t && ltb x bound) None (Some x)) (le-leb 0 x (omega arith)) ∙ ap (λ (t : Bool). cond t None (Some x)) (lt-ltb x bound h)

pub four_fits : (ms : List Move) (row : List ℕ) (p : ℕ) → length row ≡ 4 → p ≡ from_be_bytes w32 row → moved ms p < 2 ^ 32 → misfit ms Chunks32 row ≡ None
four_fits ms row p long e lt =
    let number : 0 + be (take 4 row) ≡ p = omega (arith, ap be (take_self 4 row long), be_four row long, e) in
    fits_by (2 ^ 32) (moved ms (0 + be (take 4 row))) (subst (λ (n : ℕ). moved ms n < 2 ^ 32) (sym number) lt)

pub eight_fits : (ms : List Move) (row : List ℕ) (p : ℕ) → length row ≡ 8 → p ≡ from_be_bytes w64 row → moved ms p < 2 ^ 64 → misfit ms Chunks64 row ≡ None
eight_fits ms row p long e lt =
    let number : 0 + be (take 8 row) ≡ p = omega (arith, ap be (take_self 8 row long), be_eight row long, e) in
    fits_by (2 ^ 64) (moved ms (0 + be (take 8 row))) (subst (λ (n : ℕ). moved ms n < 2 ^ 64) (sym number) lt)

-- rows of four bytes that are widened have room for every place
pub widened_named : (ms : List Move) (b : List ℕ) (t : TableAt) → t.wide ≡ false → IsNamed true ms b t
widened_named ms b t e = subst (λ (w : Bool). RowsNamed ms (form_of w true) t.rows (drop t.at b)) (sym e) (all_widened t.rows (drop t.at b))
  where
    all_widened : (n : ℕ) (x : List ℕ) → RowsNamed ms (form_of false true) n x
    all_widened zero x = tt
    all_widened (suc n) x = (refl, all_widened n (drop 4 x))

-- eight bytes stay
pub wide_named : (w : Bool) (ms : List Move) (b : List ℕ) (t : TableAt) → (w ≡ true → t.wide ≡ true) → RowsNamed ms (form_of t.wide false) t.rows (drop t.at b) → IsNamed w ms b t
wide_named true ms b t e h =
    let yes = e refl in
    subst (λ (v : Bool). RowsNamed ms (form_of v true) t.rows (drop t.at b)) (sym yes) (subst (λ (v : Bool). RowsNamed ms (form_of v false) t.rows (drop t.at b)) yes h)
wide_named false ms b t e h = h

pub named_wide : (w : Bool) (ms : List Move) (b : List ℕ) (t : TableAt) → (w ≡ true → t.wide ≡ true) → IsNamed w ms b t → RowsNamed ms (form_of t.wide false) t.rows (drop t.at b)
named_wide true ms b t e h =
    let yes = e refl in
    subst (λ (v : Bool). RowsNamed ms (form_of v false) t.rows (drop t.at b)) (sym yes) (subst (λ (v : Bool). RowsNamed ms (form_of v true) t.rows (drop t.at b)) yes h)
named_wide false ms b t e h = h
