-- What the words of a batch ask of each file is what the words of `set` ask of it alone.
use Rattle.std.proofs.Common.{◌≡◌, ℕ, zero, suc, ◌+◌, ◌<◌, List, [], ◌∷◌, length, take, drop, get_or, Bool, true, false, Option, Some, None, Result, Ok, Err, refl, sym, ap, ◌∙◌, subst, arith, cond}
use Rattle.std.specs.Prelude.{if◌then◌else◌, ◌&&◌, ◌||◌, not, codes, ◌==◌, nat_le, bytes_eq}
use Rattle.std.specs.List.{list_all}
use Rattle.part_tree.specs.declared.field.EditItem.{EditItem}
use Rattle.part_tree.specs.declared.field.RuleSet.{RuleSet}
use Rattle.part_tree.specs.declared.field.RuleSet.TheVariants.{Base}
use Rattle.metaedit_top.specs.declared.outcome.UsageFault.{UsageFault}
use Rattle.metaedit_top.specs.declared.outcome.UsageFault.TheVariants as fault
use Rattle.metaedit_top.specs.declared.words.Command.{Command}
use Rattle.metaedit_top.specs.declared.words.Command.TheVariants as command
use Rattle.metaedit_top.specs.declared.words.Request.{Request}
use Rattle.metaedit_top.specs.Batch.{file_request, set_words}
use Rattle.metaedit_top.specs.BatchWords.{BatchParts, are_files, batch_form, batch_parts}
use Rattle.metaedit_top.specs.Words.{Options, Parts, Text, asked, chosen, edit_of, fits, fitting, is_dashed, is_file, is_joined, next_word, options, parts, request, request_by, rules_of, with_rules}

-- ---- the parts

and_left : (s t : Bool) → (s && t) ≡ true → s ≡ true
and_left true t h = refl
and_left false t h = absurd cc

and_right : (s t : Bool) → (s && t) ≡ true → t ≡ true
and_right true t h = h
and_right false t h = absurd cc

-- the words behind `batch`, which have its form
pub record IsForm (p : BatchParts) : Type 0 where
  pub undashed : is_dashed p.item ≡ false
  pub files : are_files p.files ≡ true

some_same : {A : Type 0} {x y : A} → Some x ≡ Some y → x ≡ y
some_same h = cc

form_of : (words : List Text) (p : BatchParts) → batch_form words ≡ Some p → IsForm p
form_of [] p h = absurd cc
form_of (item ∷ files) p h = by_item (is_dashed item) refl h
  where
    by_files : (t : Bool) → is_dashed item ≡ false → are_files files ≡ t → (if t then Some (record { item = item; files = files }) else None) ≡ Some p → IsForm p
    by_files false undashed is e = absurd cc
    by_files true undashed is e =
        let same : record { item = item; files = files } ≡ p = some_same e in
        record {
          undashed = subst (λ (x : BatchParts). is_dashed x.item ≡ false) same undashed;
          files = subst (λ (x : BatchParts). are_files x.files ≡ true) same is;
        }

    by_item : (t : Bool) → is_dashed item ≡ t → (if t then None else (if are_files files then Some (record { item = item; files = files }) else None)) ≡ Some p → IsForm p
    by_item true is e = absurd cc
    by_item false is e = by_files (are_files files) is refl e

pub form_in : (words : List Text) (p : BatchParts) → batch_parts words ≡ Some p → IsForm p
form_in [] p h = absurd cc
form_in (command ∷ words) p h = go (bytes_eq command (codes "batch")) h
  where
    go : (t : Bool) → (if t then batch_form words else None) ≡ Some p → IsForm p
    go false e = absurd cc
    go true e = form_of words p e

all_at : (files : List Text) (i : ℕ) → list_all is_file files ≡ true → i < length files → is_file (get_or files i []) ≡ true
all_at [] i h low = absurd (omega arith)
all_at (f ∷ fs) zero h low = and_left (is_file f) (list_all is_file fs) h
all_at (f ∷ fs) (suc i) h low = all_at fs i (and_right (is_file f) (list_all is_file fs) h) (omega arith)

pub file_at : (p : BatchParts) (i : ℕ) → IsForm p → i < length p.files → is_file (get_or p.files i []) ≡ true
file_at p i form low =
    all_at p.files i
    (and_right (nat_le (length p.files) 64) (list_all is_file p.files)
    (and_right (not (length p.files == 0)) (nat_le (length p.files) 64 && list_all is_file p.files) form.files)) low

-- ---- the request

no_dash : (item rest : Text) → is_dashed item ≡ false → bytes_eq item (45 ∷ rest) ≡ false
no_dash [] rest h = refl
no_dash (b ∷ bs) rest h = ap (λ (t : Bool). t && bytes_eq bs rest) h

no_join : (item rest : Text) → is_dashed item ≡ false → bytes_eq (take 8 item) (45 ∷ rest) ≡ false
no_join [] rest h = refl
no_join (b ∷ bs) rest h = ap (λ (t : Bool). t && bytes_eq (take 7 bs) rest) h

no_options : (item : Text) → is_dashed item ≡ false → with_rules Base (item ∷ []) ≡ Some (record { rules = Base; format = None; rest = item ∷ [] })
no_options item h =
    ap (λ (t : Bool). if t then next_word [] else (if is_joined item then chosen (rules_in item) [] else Some (record { rules = Base; format = None; rest = item ∷ [] }))) (no_dash item (drop 1 (codes "--rules")) h)
    ∙ ap (λ (t : Bool). if t then chosen (rules_in item) [] else Some (record { rules = Base; format = None; rest = item ∷ [] })) (no_join item (drop 1 (codes "--rules=")) h)
  where
    rules_in : Text → Option RuleSet
    rules_in item = rules_of (drop 8 item)

fits_one : (item : Text) → is_dashed item ≡ false → fits command.Set (item ∷ []) ≡ true
fits_one item h = ap (λ (t : Bool). true && not (t || false)) h

parts_one : (item file : Text) → is_dashed item ≡ false → is_file file ≡ true → parts command.Set (file ∷ item ∷ []) ≡ Some (record { file = file; rules = Base; format = None; items = item ∷ [] })
parts_one item file h is =
    ap (λ (t : Bool). if t then fitting command.Set file (options command.Set (item ∷ [])) else None) is
    ∙ ap (fitting command.Set file) (no_options item h)
    ∙ ap (λ (t : Bool). if t then Some (record { file = file; rules = Base; format = None; items = item ∷ [] }) else None) (fits_one item h)

pub set_request : (item file : Text) (e : List EditItem) → is_dashed item ≡ false → is_file file ≡ true → edit_of (item ∷ []) ≡ Ok e → request (set_words item file) ≡ Ok (file_request e file)
set_request item file e h is edit =
    ap (request_by command.Set) (parts_one item file h is)
    ∙ ap (asked command.Set (record { file = file; rules = Base; format = None; items = item ∷ [] })) edit
