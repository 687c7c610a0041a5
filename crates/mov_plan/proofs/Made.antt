-- One segment more, and one span or table more of those that are left.
use Rattle.std.proofs.Common.{◌≡◌, ◌∙◌, ℕ, zero, suc, ◌+◌, ◌-◌, ◌*◌, ◌≤◌, ◌<◌, Bool, true, false, cond, List, [], ◌∷◌, ◌++◌, length, map, take, drop, get_or, refl, sym, ap, subst, arith, append_assoc, append-nil}
use Rattle.std.specs.Prelude.{nat_le}
use Rattle.std.specs.List.{AllByRecursion, flat_map}
use Rattle.std.proofs.lemmas.Bool.{le-leb, lt-leb}
use Rattle.std.proofs.lemmas.List.{drop-drop, drop_all, get_or_default, length-drop}
use Rattle.part_tree.specs.Moves.{Move}
use Rattle.part_tree.specs.Plans.{AllBased, AllNamed, Inside, IsBased, Named, segment_bytes}
use Rattle.part_tree.specs.declared.plan.Segment.{Segment}
use Rattle.part_tree.specs.declared.plan.Segment.TheVariants.{Table}
use Rattle.container_model.specs.Splice.{Cut, splice_from}
use Rattle.unit_plan.specs.declared.cut.CutAt.{CutAt}
use Rattle.unit_plan.specs.Cuts.{cut_in}
use Rattle.unit_plan.proofs.Spans.{next_item}
use Rattle.mov_plan.specs.Tables.{form_of, merged, table_in, tables_behind, tables_up_to}
use Rattle.mov_plan.specs.declared.tables.TableAt.{TableAt}

-- ---- one segment more

based_more : (ss : List Segment) (s : Segment) → AllBased ss → IsBased s → AllBased (ss ++ s ∷ [])
based_more [] s h i = (i, tt)
based_more (x ∷ ss) s h i = (h.0, based_more ss s h.1 i)

pub all_based : (ss new : List Segment) (s : Segment) → new ≡ ss ++ s ∷ [] → AllBased ss → IsBased s → AllBased new
all_based ss new s e h i = subst AllBased (sym e) (based_more ss s h i)

named_more : (ms : List Move) (b : List ℕ) (ss : List Segment) (s : Segment) → AllNamed ms b ss → Named ms b s → AllNamed ms b (ss ++ s ∷ [])
named_more ms b [] s h i = (i, tt)
named_more ms b (x ∷ ss) s h i = (h.0, named_more ms b ss s h.1 i)

pub all_named : (ms : List Move) (b : List ℕ) (ss new : List Segment) (s : Segment) → new ≡ ss ++ s ∷ [] → AllNamed ms b ss → Named ms b s → AllNamed ms b new
all_named ms b ss new s e h i = subst (AllNamed ms b) (sym e) (named_more ms b ss s h i)

bytes_more : (ms : List Move) (b : List ℕ) (ss : List Segment) (s : Segment) → flat_map (segment_bytes ms b) (ss ++ s ∷ []) ≡ flat_map (segment_bytes ms b) ss ++ segment_bytes ms b s
bytes_more ms b [] s = append-nil (segment_bytes ms b s)
bytes_more ms b (x ∷ ss) s = ap (λ (y : List ℕ). segment_bytes ms b x ++ y) (bytes_more ms b ss s) ∙ sym (append_assoc (segment_bytes ms b x) (flat_map (segment_bytes ms b) ss) (segment_bytes ms b s))

pub all_bytes : (ms : List Move) (b : List ℕ) (ss new : List Segment) (s : Segment) → new ≡ ss ++ s ∷ [] → flat_map (segment_bytes ms b) new ≡ flat_map (segment_bytes ms b) ss ++ segment_bytes ms b s
all_bytes ms b ss new s e = ap (flat_map (segment_bytes ms b)) e ∙ bytes_more ms b ss s

-- ---- a table

pub based_table : (wide widened : Bool) (at rows : ℕ) → IsBased (Table (form_of wide widened) at rows)
based_table true widened at rows = tt
based_table false true at rows = tt
based_table false false at rows = tt

pub inside_table : (b : List ℕ) (wide widened : Bool) (at rows : ℕ) → at + cond wide 8 4 * rows ≤ length b → Inside b (Table (form_of wide widened) at rows)
inside_table b true widened at rows h = h
inside_table b false true at rows h = h
inside_table b false false at rows h = h

-- ---- what is left

-- what stands in the place of a span, before what is left
pub one_more : (b : List ℕ) (at end : ℕ) (c : Cut) (made next : List ℕ) (rest : List Cut) → at ≤ c.at → end ≡ c.at + c.len
    → next ≡ made ++ (take (c.at - at) (drop at b) ++ c.bytes)
    → next ++ splice_from end (drop end b) rest ≡ made ++ splice_from at (drop at b) (c ∷ rest)
one_more b at end c made next rest le is e =
    let copy = take (c.at - at) (drop at b) in
    let stop = c.at + c.len in
    let behind : drop stop b ≡ drop (stop - at) (drop at b) = sym (drop-drop (stop - at) at b ∙ ap (λ (n : ℕ). drop n b) (omega (arith, le))) in
    ap (λ (n : ℕ). next ++ splice_from n (drop n b) rest) is
    ∙ ap (λ (x : List ℕ). x ++ splice_from stop (drop stop b) rest) e
    ∙ regroup made copy c.bytes (splice_from stop (drop stop b) rest)
    ∙ ap (λ (x : List ℕ). made ++ (copy ++ (c.bytes ++ splice_from stop x rest))) behind
  where
    regroup : (a b c d : List ℕ) → (a ++ (b ++ c)) ++ d ≡ a ++ (b ++ (c ++ d))
    regroup a b c d = simp append_assoc

-- the first of the tables that are left, where it begins at a place or before it
pub up_to_more : (p : ℕ) (ts : List TableAt) (i : ℕ) (t : TableAt) → i < length ts → t ≡ get_or ts i t → t.at ≤ p → tables_up_to p (drop i ts) ≡ t ∷ tables_up_to p (drop (i + 1) ts)
up_to_more p ts i t lt e le =
    ap (tables_up_to p) (next_item ts i t lt e) ∙ ap (λ (u : Bool). cond u (t ∷ tables_up_to p (drop (i + 1) ts)) []) (le-leb t.at p le)

pub up_to_none : (p : ℕ) (ts : List TableAt) (i : ℕ) (t : TableAt) → i < length ts → t ≡ get_or ts i t → p < t.at → tables_up_to p (drop i ts) ≡ []
up_to_none p ts i t lt e le =
    ap (tables_up_to p) (next_item ts i t lt e) ∙ ap (λ (u : Bool). cond u (t ∷ tables_up_to p (drop (i + 1) ts)) []) (lt-leb t.at p le)

pub up_to_end : (p : ℕ) (ts : List TableAt) (i : ℕ) → length ts ≤ i → tables_up_to p (drop i ts) ≡ []
up_to_end p ts i past = ap (tables_up_to p) (drop_all i ts past)

-- those behind it are what is left behind those
pub behind_is : (p : ℕ) (ts : List TableAt) → tables_behind p ts ≡ drop (length (tables_up_to p ts)) ts
behind_is p [] = refl
behind_is p (t ∷ ts) = go (nat_le t.at p) (behind_is p ts)
  where
    go : (u : Bool) → tables_behind p ts ≡ drop (length (tables_up_to p ts)) ts
        → cond u (tables_behind p ts) (t ∷ ts) ≡ drop (length (cond u (t ∷ tables_up_to p ts) [])) (t ∷ ts)
    go true again = again
    go false again = refl

pub behind_from : (p : ℕ) (ts : List TableAt) (i n : ℕ) → n ≡ i + length (tables_up_to p (drop i ts)) → tables_behind p (drop i ts) ≡ drop n ts
behind_from p ts i n e =
    behind_is p (drop i ts) ∙ drop-drop (length (tables_up_to p (drop i ts))) i ts ∙ ap (λ (k : ℕ). drop k ts) (sym e)

-- a table among those that are named
pub named_at : (P : TableAt → Type 0) (ts : List TableAt) (i : ℕ) (t : TableAt) → i < length ts → t ≡ get_or ts i t → AllByRecursion P ts → P t
named_at P [] i t lt e h = absurd (omega arith)
named_at P (x ∷ ts) zero t lt e h = subst P (sym e) h.0
named_at P (x ∷ ts) (suc i) t lt e h = named_at P ts i t (omega arith) e h.1

-- a span among those that keep no more than they have
pub kept_at : (P : CutAt → Type 0) (ks : List CutAt) (i : ℕ) (k : CutAt) → i < length ks → k ≡ get_or ks i k → AllByRecursion P ks → P k
kept_at P [] i k lt e h = absurd (omega arith)
kept_at P (x ∷ ks) zero k lt e h = subst P (sym e) h.0
kept_at P (x ∷ ks) (suc i) k lt e h = kept_at P ks i k (omega arith) e h.1

-- the spans and tables that are left, with the next span
pub merged_more : (w : Bool) (ms : List Move) (b : List ℕ) (ks : List CutAt) (ts : List TableAt) (i : ℕ) (k : CutAt) (next new : ℕ) → i < length ks → k ≡ get_or ks i k
    → new ≡ next + length (tables_up_to k.span.at (drop next ts))
    → merged w ms b (drop i ks) (drop next ts) ≡ map (table_in w ms b) (tables_up_to k.span.at (drop next ts)) ++ cut_in b k ∷ merged w ms b (drop (i + 1) ks) (drop new ts)
merged_more w ms b ks ts i k next new lt e is =
    ap (λ (xs : List CutAt). merged w ms b xs (drop next ts)) (next_item ks i k lt e)
    ∙ ap (λ (us : List TableAt). map (table_in w ms b) (tables_up_to k.span.at (drop next ts)) ++ cut_in b k ∷ merged w ms b (drop (i + 1) ks) us) (behind_from k.span.at ts next new is)

-- none is left where all were met
pub all_up_to : (p : ℕ) (ts : List TableAt) (i : ℕ) → i ≤ length ts → i + length (tables_up_to p (drop i ts)) ≡ length ts → tables_up_to p (drop i ts) ≡ drop i ts
all_up_to p ts i le e = whole p (drop i ts) (omega (arith, length-drop i ts, e, le))
  where
    few : (p : ℕ) (us : List TableAt) → length (tables_up_to p us) ≤ length us
    few p [] = omega arith
    few p (u ∷ us) = go (nat_le u.at p) (few p us)
      where
        go : (t : Bool) → length (tables_up_to p us) ≤ length us → length (cond t (u ∷ tables_up_to p us) []) ≤ suc (length us)
        go true h = omega (arith, h)
        go false h = omega arith

    whole : (p : ℕ) (us : List TableAt) → length us ≤ length (tables_up_to p us) → tables_up_to p us ≡ us
    whole p [] h = refl
    whole p (u ∷ us) h = go (nat_le u.at p) h (whole p us)
      where
        go : (t : Bool) → suc (length us) ≤ length (cond t (u ∷ tables_up_to p us) []) → (length us ≤ length (tables_up_to p us) → tables_up_to p us ≡ us) → cond t (u ∷ tables_up_to p us) [] ≡ u ∷ us
        go true h again = ap (λ (vs : List TableAt). u ∷ vs) (again (omega (arith, h)))
        go false h again = absurd (omega (arith, h))

-- ---- the table of a number

-- what is read past the end
abbrev pub no_table : TableAt
no_table = record { at = 0; wide = false; rows = 0 }

abbrev pub table_of : List TableAt → ℕ → TableAt
table_of ts i = get_or ts i no_table

pub table_read : (ts : List TableAt) (i : ℕ) → i < length ts → table_of ts i ≡ get_or ts i (table_of ts i)
table_read ts i lt = get_or_default ts i no_table (table_of ts i) lt

pub left_table : (ts : List TableAt) (i : ℕ) → i < length ts → drop i ts ≡ table_of ts i ∷ drop (i + 1) ts
left_table ts i lt = next_item ts i (table_of ts i) lt (table_read ts i lt)
