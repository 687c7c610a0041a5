-- Records, read one by one.
use Rattle.std.proofs.Common.{◌≡◌, ℕ, zero, suc, ◌+◌, ◌-◌, ◌<◌, ◌≤◌, List, [], ◌∷◌, ◌++◌, length, Bool, true, false, Option, Some, None, refl, sym, ap, ◌∙◌, arith, length-append, add-one}
use Rattle.std.proofs.lemmas.Bool.{false≢true}
use Rattle.csv.specs.Machine.{Read, ends_at_end, field_after, fields_after, is_end, next_record, step}
use Rattle.csv.specs.Reading.{NextIs, default_config, records_from, records_next, strip_bom}
use Rattle.csv.specs.declared.parser.Action.{Action}
use Rattle.csv.specs.declared.parser.Action.TheVariants as act
use Rattle.csv.specs.declared.parser.Config.{Config}
use Rattle.csv.specs.declared.parser.State.{State}
use Rattle.core_csv.specs.Records.{is_marked}

-- ---- a byte order mark

pub marked_len : (b : List ℕ) → is_marked b ≡ true → length b - 3 ≡ length (strip_bom b)
unfolding strip_bom
marked_len [] m = absurd cc
marked_len (x ∷ []) m = absurd cc
marked_len (x ∷ y ∷ []) m = absurd cc
marked_len (x ∷ y ∷ z ∷ b) m = rw m (omega arith)

pub unmarked_len : (b : List ℕ) → is_marked b ≡ false → length b ≡ length (strip_bom b)
unfolding strip_bom
unmarked_len [] m = refl
unmarked_len (x ∷ []) m = refl
unmarked_len (x ∷ y ∷ []) m = refl
unmarked_len (x ∷ y ∷ z ∷ b) m = rw m refl

pub marked_long : (b : List ℕ) → is_marked b ≡ true → 3 ≤ length b
marked_long [] m = absurd cc
marked_long (x ∷ []) m = absurd cc
marked_long (x ∷ y ∷ []) m = absurd cc
marked_long (x ∷ y ∷ z ∷ b) m = omega arith

-- ---- one record more

-- a record that was read is the first of those that are left
pub next_rows : (more : State → List ℕ → List (List (List ℕ))) (o : Option Read) (row : List (List ℕ)) (s : State) (text : List ℕ)
    → NextIs o true row s text → records_next more o ≡ row ∷ more s text
next_rows more None row s text h = absurd (false≢true (sym h))
next_rows more (Some p) row s text h = sym (ap (λ (r : List (List ℕ)). r ∷ more s text) h.1 ∙ ap (λ (t : State). p.0 ∷ more t text) h.2 ∙ ap (λ (t : List ℕ). p.0 ∷ more p.1 t) h.3)

-- where none was read none is left
pub no_rows : (more : State → List ℕ → List (List (List ℕ))) (o : Option Read) (row : List (List ℕ)) (s : State) (text : List ℕ)
    → NextIs o false row s text → records_next more o ≡ []
no_rows more None row s text h = refl
no_rows more (Some p) row s text h = absurd (false≢true h.0)

-- the records that are left where one more is asked for
pub records_step : (n : ℕ) (s : State) (text : List ℕ) → records_from default_config (suc n) s text ≡ records_next (records_from default_config n) (next_record default_config s [] [] text)
unfolding records_from
records_step n s text = refl

pub records_none : (s : State) (text : List ℕ) → records_from default_config zero s text ≡ []
unfolding records_from
records_none s text = refl

-- ---- how many cells a record has

after_some : (a : Action) (fields : List (List ℕ)) (field : List ℕ) → is_end a ≡ true → fields_after a fields field ≡ fields ++ field ∷ []
after_some act.EndRecord fields field e = refl
after_some act.EndField fields field e = absurd cc
after_some act.Skip fields field e = absurd cc
after_some act.Copy fields field e = absurd cc

after_few : (a : Action) (fields : List (List ℕ)) (field : List ℕ) → length (fields_after a fields field) ≤ length fields + 1
after_few act.EndRecord fields field = omega (arith, length-append fields (field ∷ []))
after_few act.EndField fields field = omega (arith, length-append fields (field ∷ []))
after_few act.Skip fields field = omega arith
after_few act.Copy fields field = omega arith

-- a cell or more, and at most one more than the bytes
abbrev pub Few : ℕ → ℕ → Option Read → Type 0
Few had bytes None = Unit {0}
Few had bytes (Some p) = (0 < length p.0) × (length p.0 ≤ had + bytes + 1)

few_more : (had had2 bytes : ℕ) (o : Option Read) → had2 ≤ had + 1 → Few had2 bytes o → Few had (suc bytes) o
few_more had had2 bytes None le h = tt
few_more had had2 bytes (Some p) le h = (h.0, omega (arith, le, h.1))

one_more : (fields : List (List ℕ)) (field : List ℕ) (bytes : ℕ) → (0 < length (fields ++ field ∷ [])) × (length (fields ++ field ∷ []) ≤ length fields + bytes + 1)
one_more fields field bytes = (omega (arith, length-append fields (field ∷ [])), omega (arith, length-append fields (field ∷ [])))

pub few_cells : (cfg : Config) (s : State) (fields : List (List ℕ)) (field : List ℕ) (xs : List ℕ) → Few (length fields) (length xs) (next_record cfg s fields field xs)
unfolding next_record
few_cells cfg s fields field [] = go (ends_at_end s)
  where
    go : (t : Bool) → Few (length fields) 0 (Rattle.std.proofs.Common.cond t (Some (fields ++ (field ∷ []), Rattle.csv.specs.declared.parser.State.TheVariants.StartRecord, [])) None)
    go true = one_more fields field 0
    go false = tt
few_cells cfg s fields field (c ∷ xs) = go (step cfg s c).1 refl
    (few_more (length fields) _ (length xs) _ (after_few (step cfg s c).1 fields field) (few_cells cfg (step cfg s c).0 (fields_after (step cfg s c).1 fields field) (field_after (step cfg s c).1 c field) xs))
  where
    go : (a : Action) → (step cfg s c).1 ≡ a → Few (length fields) (suc (length xs)) (next_record cfg (step cfg s c).0 (fields_after (step cfg s c).1 fields field) (field_after (step cfg s c).1 c field) xs)
        → Few (length fields) (suc (length xs)) (Rattle.std.proofs.Common.cond (is_end (step cfg s c).1) (Some (fields_after (step cfg s c).1 fields field, (step cfg s c).0, xs))
        (next_record cfg (step cfg s c).0 (fields_after (step cfg s c).1 fields field) (field_after (step cfg s c).1 c field) xs))
    go act.EndRecord e more =
        let ends : is_end (step cfg s c).1 ≡ true = ap is_end e in
        rw (ends, after_some (step cfg s c).1 fields field ends) (one_more fields field (suc (length xs)))
    go act.EndField e more = let ends : is_end (step cfg s c).1 ≡ false = ap is_end e in rw ends more
    go act.Skip e more = let ends : is_end (step cfg s c).1 ≡ false = ap is_end e in rw ends more
    go act.Copy e more = let ends : is_end (step cfg s c).1 ≡ false = ap is_end e in rw ends more
