-- The tables of a file, one after the other.
use Rattle.std.proofs.Common.{◌≡◌, ◌∙◌, ℕ, zero, suc, ◌+◌, ◌≤◌, ◌<◌, List, [], ◌∷◌, ◌++◌, length, map, drop, get_or, Option, None, refl, sym, ap, subst, arith, append_assoc, append-nil}
use Rattle.std.specs.Prelude.{OnOk, Result}
use Rattle.std.specs.List.{AllByRecursion, flat_map}
use Rattle.std.proofs.lemmas.List.{drop_all, get_or_default}
use Rattle.std.specs.declared.result.Result.TheVariants.{Ok, Err}
use Rattle.part_tree.specs.Large.{Size}
use Rattle.part_tree.specs.Moves.{Move}
use Rattle.part_tree.specs.declared.plan.PlanFault.{PlanFault}
use Rattle.part_tree.specs.declared.plan.PlanFault.TheVariants.{TooLarge, Depot, Memory}
use Rattle.container_model.specs.Tests.{or_else}
use Rattle.avi_index.specs.Rows.{Base}
use Rattle.avi_plan.specs.Changes.{TellsFault, refused, refused_by}
use Rattle.avi_plan.specs.Tables.{IsTabled, Tabled, changes_of, table_at}
use Rattle.avi_plan.specs.declared.table.Change.{Change}
use Rattle.avi_plan.specs.declared.table.TableAt.{TableAt}
use Rattle.table_misfits.proofs.Misfits.{or_assoc}

-- ---- what is told of changes that follow others

pub refused_both : (ms : List Move) (b : List ℕ) (xs ys : List Change) → refused ms b (xs ++ ys) ≡ or_else (refused ms b xs) (refused ms b ys)
refused_both ms b [] ys = refl
refused_both ms b (x ∷ xs) ys = ap (λ (o : Option Size). or_else (refused_by ms b x) o) (refused_both ms b xs ys) ∙ or_assoc (refused_by ms b x) (refused ms b xs) (refused ms b ys)

-- ---- some tables, and those that are left

-- The changes of the first tables are there, and nothing is told of them.
pub record IsLeft (ms : List Move) (b : List ℕ) (base : Base) (xs : List Tabled) (i : ℕ) (cs : List Change) : Type 0 where
  pub changes : cs ++ flat_map (changes_of ms base) (drop i xs) ≡ flat_map (changes_of ms base) xs
  pub none : refused ms b cs ≡ None

pub left_start : (ms : List Move) (b : List ℕ) (base : Base) (xs : List Tabled) (cs : List Change) → cs ≡ [] → IsLeft ms b base xs 0 cs
left_start ms b base xs cs e = record {
  changes = ap (λ (x : List Change). x ++ flat_map (changes_of ms base) xs) e;
  none = ap (refused ms b) e;
}

-- the table of a number
pub record IsNth (b : List ℕ) (movi : ℕ) (base : Base) (xs : List Tabled) (i : ℕ) (t : TableAt) : Type 0 where
  pub table : Tabled
  pub next : drop i xs ≡ table ∷ drop (i + 1) xs
  pub told : t ≡ table_at movi base table
  pub tabled : IsTabled b table

pub nth : (b : List ℕ) (movi : ℕ) (base : Base) (xs : List Tabled) (ts : List TableAt) (i : ℕ) (t : TableAt) → ts ≡ map (table_at movi base) xs → AllByRecursion (IsTabled b) xs → i < length ts → t ≡ get_or ts i t
    → IsNth b movi base xs i t
nth b movi base xs ts i t e all lt is = go xs i all (subst (λ (us : List TableAt). i < length us) e lt) (subst (λ (us : List TableAt). t ≡ get_or us i t) e is)
  where
    go : (xs : List Tabled) (i : ℕ) → AllByRecursion (IsTabled b) xs → i < length (map (table_at movi base) xs) → t ≡ get_or (map (table_at movi base) xs) i t → IsNth b movi base xs i t
    go [] i all lt is = absurd (omega (arith, lt))
    go (x ∷ xs) zero all lt is = record { table = x; next = refl; told = is; tabled = all.0 }
    go (x ∷ xs) (suc i) all lt is =
        let r = go xs i all.1 (omega (arith, lt)) is in
        let one : suc i + 1 ≡ suc (i + 1) = omega arith in
        record { table = r.table; next = r.next ∙ ap (λ (k : ℕ). r.table ∷ drop k (x ∷ xs)) (sym one); told = r.told; tabled = r.tabled }

pub left_more : (ms : List Move) (b : List ℕ) (movi : ℕ) (base : Base) (xs : List Tabled) (i : ℕ) (t : TableAt) (cs new : List Change) (n : IsNth b movi base xs i t)
    → IsLeft ms b base xs i cs → new ≡ cs ++ changes_of ms base n.table → refused ms b (changes_of ms base n.table) ≡ None → IsLeft ms b base xs (i + 1) new
left_more ms b movi base xs i t cs new n h e none =
    let rest = flat_map (changes_of ms base) (drop (i + 1) xs) in
    let one = changes_of ms base n.table in
    record {
      changes = ap (λ (x : List Change). x ++ rest) e ∙ append_assoc cs one rest ∙ ap (λ (ys : List Tabled). cs ++ flat_map (changes_of ms base) ys) (sym n.next) ∙ h.changes;
      none = ap (refused ms b) e ∙ refused_both ms b cs one ∙ ap (λ (o : Option Size). or_else o (refused ms b one)) h.none ∙ none;
    }

-- a table more
pub left_next : (ms : List Move) (b : List ℕ) (movi : ℕ) (base : Base) (xs : List Tabled) (ts : List TableAt) (i : ℕ) (d : TableAt) (cs new : List Change) → ts ≡ map (table_at movi base) xs → AllByRecursion (IsTabled b) xs → i < length ts → IsLeft ms b base xs i cs
    → ((x : Tabled) → IsTabled b x → get_or ts i d ≡ table_at movi base x → new ≡ cs ++ changes_of ms base x)
    → ((x : Tabled) → IsTabled b x → get_or ts i d ≡ table_at movi base x → refused ms b (changes_of ms base x) ≡ None) → IsLeft ms b base xs (i + 1) new
left_next ms b movi base xs ts i d cs new e all lt h made none =
    let n = nth b movi base xs ts i (get_or ts i d) e all lt (get_or_default ts i d (get_or ts i d) lt) in
    left_more ms b movi base xs i (get_or ts i d) cs new n h (made n.table n.tabled n.told) (none n.table n.tabled n.told)

-- a fault of a table is that of all
pub err_told : (ms : List Move) (b : List ℕ) (movi : ℕ) (base : Base) (xs : List Tabled) (ts : List TableAt) (i : ℕ) (d : TableAt) (cs : List Change) (fault : PlanFault) → ts ≡ map (table_at movi base) xs → AllByRecursion (IsTabled b) xs → i < length ts → IsLeft ms b base xs i cs
    → ((x : Tabled) → IsTabled b x → get_or ts i d ≡ table_at movi base x → TellsFault (refused ms b (changes_of ms base x)) fault) → TellsFault (refused ms b (flat_map (changes_of ms base) xs)) fault
err_told ms b movi base xs ts i d cs fault e all lt h told =
    let n = nth b movi base xs ts i (get_or ts i d) e all lt (get_or_default ts i d (get_or ts i d) lt) in
    go n.table n.next fault (told n.table n.tabled n.told)
  where
    go : (x : Tabled) → drop i xs ≡ x ∷ drop (i + 1) xs → (fault : PlanFault) → TellsFault (refused ms b (changes_of ms base x)) fault → TellsFault (refused ms b (flat_map (changes_of ms base) xs)) fault
    go x next (TooLarge size limit) is =
        let one = changes_of ms base x in
        let rest = flat_map (changes_of ms base) (drop (i + 1) xs) in
        ap (refused ms b) (sym h.changes ∙ ap (λ (ys : List Tabled). cs ++ flat_map (changes_of ms base) ys) next)
        ∙ refused_both ms b cs (one ++ rest) ∙ ap (λ (o : Option Size). or_else o (refused ms b (one ++ rest))) h.none ∙ refused_both ms b one rest
        ∙ ap (λ (o : Option Size). or_else o (refused ms b rest)) is
    go x next Depot is = tt
    go x next Memory is = tt

pub count_of : (movi : ℕ) (base : Base) (xs : List Tabled) (ts : List TableAt) → ts ≡ map (table_at movi base) xs → length ts ≡ length xs
count_of movi base xs ts e = ap (λ (us : List TableAt). length us) e ∙ go xs
  where
    go : (xs : List Tabled) → length (map (table_at movi base) xs) ≡ length xs
    go [] = refl
    go (x ∷ xs) = ap suc (go xs)

-- changes behind others
pub all_both : (P : Change → Type 0) (xs ys new : List Change) → new ≡ xs ++ ys → AllByRecursion P xs → AllByRecursion P ys → AllByRecursion P new
all_both P xs ys new e h k = subst (AllByRecursion P) (sym e) (go xs h)
  where
    go : (xs : List Change) → AllByRecursion P xs → AllByRecursion P (xs ++ ys)
    go [] h = k
    go (x ∷ xs) h = (h.0, go xs h.1)

pub ok_both : {T E : Type 0} (r : Result T E) (P Q R : Type 0) → (P → Q → R) → OnOk r P → OnOk r Q → OnOk r R
ok_both (Ok x) P Q R f p q = f p q
ok_both (Err e) P Q R f p q = p

-- no table is left
pub left_all : (ms : List Move) (b : List ℕ) (base : Base) (xs : List Tabled) (i : ℕ) (cs : List Change) → length xs ≤ i → IsLeft ms b base xs i cs
    → (cs ≡ flat_map (changes_of ms base) xs) × (refused ms b (flat_map (changes_of ms base) xs) ≡ None)
left_all ms b base xs i cs past h =
    let is : cs ≡ flat_map (changes_of ms base) xs = sym (ap (λ (ys : List Tabled). cs ++ flat_map (changes_of ms base) ys) (drop_all i xs past) ∙ append-nil cs) ∙ h.changes in
    (is, ap (refused ms b) (sym is) ∙ h.none)
