-- One change more of a body.
use Rattle.std.proofs.Common.{◌≡◌, ℕ, ◌<◌, ◌≤◌, ◌+◌, List, ◌∷◌, ◌++◌, length, take, drop, get_or, sym, ap, ◌∙◌, arith, subst, Option, Some, None}
use Rattle.std.specs.Prelude.{max}
use Rattle.std.proofs.lemmas.List.{at_drop_more, at_drop_all, take_at}
use Rattle.part_tree.specs.declared.field.FieldName.{FieldName}
use Rattle.part_tree.specs.declared.field.FieldName.TheVariants.{Bext, Info, Whole, User, Key, Stream}
use Rattle.part_tree.specs.declared.field.Value.{Value}
use Rattle.part_tree.specs.Names.{bext_row}
use Rattle.field_model.specs.Bext.{raised}
use Rattle.field_model.specs.Body.{FitBext, FitsBext, edited_bext, lay_item, lay_items}
use Rattle.field_model.specs.Update.{needed, since_name}
use Rattle.field_model.proofs.Ranges.{lay_long}
use Rattle.field_model.proofs.Raised.{raised_long, row_small}
use Rattle.bext_fields.specs.declared.change.RawChange.{RawChange}
use Rattle.bext_fields.specs.Change.{raw_items_of}

-- what is made of the changes from one on is made of it and those behind it
from_one : {Y : Type 0} (F : List RawChange → Y) (xs : List RawChange) (k : ℕ) (c : RawChange) → k < length xs → c ≡ get_or xs k c → F (drop k xs) ≡ F (c ∷ drop (k + 1) xs)
from_one F xs k c inside is = at_drop_more F xs k c inside ∙ ap (λ (d : RawChange). F (d ∷ drop (k + 1) xs)) (sym is)

-- ---- the version

pub needed_more : (xs : List RawChange) (k : ℕ) (c : RawChange) (version next whole : ℕ) → k < length xs → c ≡ get_or xs k c
    → next ≡ max version (since_name c.name) → max version (needed (raw_items_of (drop k xs))) ≡ whole → max next (needed (raw_items_of (drop (k + 1) xs))) ≡ whole
needed_more xs k c version next whole inside is step so_far =
    let split = from_one (λ (ys : List RawChange). needed (raw_items_of ys)) xs k c inside is in
    omega (arith, split, step, so_far)

pub needed_end : (xs : List RawChange) (k version whole : ℕ) → length xs ≤ k → max version (needed (raw_items_of (drop k xs))) ≡ whole → version ≡ whole
needed_end xs k version whole past so_far =
    let none = at_drop_all (λ (ys : List RawChange). needed (raw_items_of ys)) xs k past in
    omega (arith, none, so_far)

-- ---- the body

pub laid_more : (xs : List RawChange) (k : ℕ) (c : RawChange) (bext next whole : List ℕ) → k < length xs → c ≡ get_or xs k c
    → next ≡ lay_item c.name c.value bext → lay_items (raw_items_of (drop k xs)) bext ≡ whole → lay_items (raw_items_of (drop (k + 1) xs)) next ≡ whole
laid_more xs k c bext next whole inside is step so_far =
    ap (lay_items (raw_items_of (drop (k + 1) xs))) step
    ∙ sym (from_one (λ (ys : List RawChange). lay_items (raw_items_of ys) bext) xs k c inside is) ∙ so_far

pub laid_end : (xs : List RawChange) (k : ℕ) (bext whole : List ℕ) → length xs ≤ k → lay_items (raw_items_of (drop k xs)) bext ≡ whole → bext ≡ whole
laid_end xs k bext whole past so_far = sym (at_drop_all (λ (ys : List RawChange). lay_items (raw_items_of ys) bext) xs k past) ∙ so_far

-- the change fits, and so do those behind it
pub fit_now : (xs : List RawChange) (k : ℕ) (c : RawChange) → k < length xs → c ≡ get_or xs k c → FitBext (raw_items_of (drop k xs)) → FitsBext c.name c.value × FitBext (raw_items_of (drop (k + 1) xs))
fit_now xs k c inside is fit =
    let P : List RawChange → Type 0 = λ ys. FitBext (raw_items_of ys) in
    let here : drop k xs ≡ c ∷ drop (k + 1) xs = from_one (λ (ys : List RawChange). ys) xs k c inside is in
    subst P here fit

-- a body stays long
pub laid_long : (name : FieldName) (value : Option Value) (bext next : List ℕ) → FitsBext name value → 602 ≤ length bext → next ≡ lay_item name value bext → 602 ≤ length next
laid_long name value bext next fits long step = let P : List ℕ → Type 0 = λ b. 602 ≤ length b in subst P (sym step) (go name value fits)
  where
    go : (name : FieldName) (value : Option Value) → FitsBext name value → 602 ≤ length (lay_item name value bext)
    go (Bext field) None fits = absurd fits
    go (Bext field) (Some v) fits = lay_long (bext_row field) v.raw bext (row_small field) long fits.1
    go (Info id) value fits = long
    go (Whole id) value fits = long
    go name value fits = long

-- ---- the whole

-- a slice of the whole of some bytes, written back
pub written_back : (n : ℕ) (next bytes : List ℕ) → length next ≡ n → take n (next ++ drop (length next) bytes) ≡ next
written_back n next bytes e = take_at next (drop (length next) bytes) n e

-- the changes of a body that was raised
pub laid_first : (xs : List RawChange) (to : ℕ) (body old next bext : List ℕ) → to ≡ needed (raw_items_of xs) → old ≡ body → next ≡ raised to old → bext ≡ next
    → lay_items (raw_items_of xs) bext ≡ edited_bext (raw_items_of xs) body
laid_first xs to body old next bext version copied step written =
    ap (lay_items (raw_items_of xs)) (written ∙ step ∙ ap (raised to) copied ∙ ap (λ (n : ℕ). raised n body) version)

pub raised_first : (to : ℕ) (old next bext : List ℕ) → 602 ≤ length old → next ≡ raised to old → bext ≡ next → 602 ≤ length bext
raised_first to old next bext long step written = let P : List ℕ → Type 0 = λ b. 602 ≤ length b in subst P (sym (written ∙ step)) (raised_long to old long)
