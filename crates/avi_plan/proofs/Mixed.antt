-- Spans of an edit with what changes of tables among them: the spans of the edit with the tables put among them.
use Rattle.std.proofs.Common.{◌≡◌, ◌∙◌, ◌⊎◌, ℕ, ◌+◌, ◌-◌, ◌*◌, ◌≤◌, ◌<◌, Bool, true, false, cond, List, [], ◌∷◌, ◌++◌, length, map, Option, Some, None, refl, sym, ap, subst, arith, inl, inr, append_assoc, append-nil}
use Rattle.std.specs.Prelude.{nat_le}
use Rattle.std.specs.List.{AllByRecursion, flat_map}
use Rattle.std.proofs.Math.Nat.{mul-div-le}
use Rattle.std.proofs.lemmas.Bool.{cases_lt, le-leb, leb-true, lt-leb}
use Rattle.std.proofs.lemmas.List.{map-append}
use Rattle.part_tree.specs.Moves.{Move}
use Rattle.part_tree.specs.Tables.{moved, width}
use Rattle.part_tree.specs.declared.table.TableForm.TheVariants as form
use Rattle.container_model.specs.Splice.{Ascend, Cut, end_of}
use Rattle.avi_index.specs.Rows.{Base, from_movi, from_start}
use Rattle.opendml_index.specs.Index.{How, entries, first_counted, is_super, move, used, width as row_width}
use Rattle.opendml_index.proofs.Known.{standard_index, super_index, super_kind}
use Rattle.avi_model.specs.NewFile.{put_cut, put_cuts}
use Rattle.unit_plan.specs.Cuts.{cut_in}
use Rattle.unit_plan.specs.declared.cut.CutAt.{CutAt}
use Rattle.avi_plan.specs.Changes.{IsNamed, change_at, change_cut, change_end, changes_behind, changes_up_to, merged}
use Rattle.avi_plan.specs.Heads.{head_in}
use Rattle.avi_plan.specs.Renewed.{new_body, table_cut}
use Rattle.avi_plan.specs.Tables.{IsTabled, Tabled, changes_of, index, index_changes, old, old_changes, standard_changes, table_of}
use Rattle.avi_plan.specs.declared.table.Change.{Change}
use Rattle.avi_plan.proofs.Refined.{Behind, cut_more, left, piece}
use Rattle.avi_plan.proofs.Renewed.{table_is, wide_form}

-- where a table ends
abbrev pub stop : Tabled → ℕ
stop x = (table_of x).at + length (table_of x).body

-- ---- tables up to a place

abbrev ups : ℕ → List Tabled → List Tabled
ups q [] = []
ups q (x ∷ xs) = cond (nat_le (stop x) q) (x ∷ ups q xs) []

abbrev downs : ℕ → List Tabled → List Tabled
downs q [] = []
downs q (x ∷ xs) = cond (nat_le (stop x) q) (downs q xs) (x ∷ xs)

ups_all : (P : Tabled → Type 0) (q : ℕ) (xs : List Tabled) → AllByRecursion P xs → AllByRecursion P (ups q xs)
ups_all P q [] h = tt
ups_all P q (x ∷ xs) h = go (nat_le (stop x) q) (ups_all P q xs h.1)
  where
    go : (t : Bool) → AllByRecursion P (ups q xs) → AllByRecursion P (cond t (x ∷ ups q xs) [])
    go true more = (h.0, more)
    go false more = tt

downs_all : (P : Tabled → Type 0) (q : ℕ) (xs : List Tabled) → AllByRecursion P xs → AllByRecursion P (downs q xs)
downs_all P q [] h = tt
downs_all P q (x ∷ xs) h = go (nat_le (stop x) q) (downs_all P q xs h.1)
  where
    go : (t : Bool) → AllByRecursion P (downs q xs) → AllByRecursion P (cond t (downs q xs) (x ∷ xs))
    go true more = more
    go false more = h

-- ---- changes lie in their tables

In : Tabled → Change → Type 0
In x c = ((table_of x).at ≤ change_at c) × (change_end c ≤ stop x)

all_append : {X : Type 0} (P : X → Type 0) (xs ys : List X) → AllByRecursion P xs → AllByRecursion P ys → AllByRecursion P (xs ++ ys)
all_append P [] ys h k = k
all_append P (x ∷ xs) ys h k = (h.0, all_append P xs ys h.1 k)

all_turn : {X : Type 0} (P Q : X → Type 0) → ((x : X) → P x → Q x) → (xs : List X) → AllByRecursion P xs → AllByRecursion Q xs
all_turn P Q f [] h = tt
all_turn P Q f (x ∷ xs) h = (f x h.0, all_turn P Q f xs h.1)

-- changes that end at a place or before it, and those behind
up_front : (q : ℕ) (cs ds : List Change) → AllByRecursion (λ c. change_end c ≤ q) cs → (changes_up_to q (cs ++ ds) ≡ cs ++ changes_up_to q ds) × (changes_behind q (cs ++ ds) ≡ changes_behind q ds)
up_front q [] ds h = (refl, refl)
up_front q (c ∷ cs) ds h =
    let again = up_front q cs ds h.1 in
    let e : nat_le (change_end c) q ≡ true = le-leb (change_end c) q h.0 in
    (ap (λ (t : Bool). cond t (c ∷ changes_up_to q (cs ++ ds)) []) e ∙ ap (λ (us : List Change). c ∷ us) again.0, ap (λ (t : Bool). cond t (changes_behind q (cs ++ ds)) (c ∷ (cs ++ ds))) e ∙ again.1)

up_none : (q : ℕ) (cs : List Change) → AllByRecursion (λ c. q < change_end c) cs → (changes_up_to q cs ≡ []) × (changes_behind q cs ≡ cs)
up_none q [] h = (refl, refl)
up_none q (c ∷ cs) h =
    let e : nat_le (change_end c) q ≡ false = lt-leb (change_end c) q h.0 in
    (ap (λ (t : Bool). cond t (c ∷ changes_up_to q cs) []) e, ap (λ (t : Bool). cond t (changes_behind q cs) (c ∷ cs)) e)

module _ (ms : List Move) (b : List ℕ) (base : Base) where
  abbrev h : How
  h = move (moved ms)

  abbrev tc : Tabled → Cut
  tc x = table_cut h base x

  abbrev changes : List Tabled → List Change
  changes xs = flat_map (changes_of ms base) xs

  in_table : (x : Tabled) → IsTabled b x → AllByRecursion (λ c. ((table_of x).at ≤ change_at c) × (change_end c ≤ stop x)) (changes_of ms base x)
  in_table (old t) tabled = go base
    where
      go : (base : Base) → AllByRecursion (λ c. (t.at ≤ change_at c) × (change_end c ≤ t.at + length t.body)) (old_changes base t)
      go from_movi = tt
      go from_start = ((omega arith, omega (arith, mul-div-le (length t.body) 16)), tt)
  in_table (index t) tabled = go (is_super t.body) refl
    where
      Lies : Change → Type 0
      Lies c = (t.at ≤ change_at c) × (change_end c ≤ t.at + length t.body)

      room : 24 + row_width t.body * used t.body ≤ length t.body
      room = leb-true (24 + row_width t.body * used t.body) (length t.body) tabled.1.entries_are_there

      one : is_super t.body ≡ false → (o : Option ℕ) → AllByRecursion (λ c. (t.at ≤ change_at c) × (change_end c ≤ t.at + length t.body)) (standard_changes ms (head_in t.body) t.at o)
      one e None = tt
      one e (Some x) =
          let new = (head_in t.body).base + moved ms ((head_in t.body).base + x) - ((head_in t.body).base + x) in
          let wide = wide_form t.body new (standard_index t.body tabled.1.kind_is e) in
          let fits : 24 + width (form.Standard (head_in t.body) new) * used t.body ≤ length t.body = subst (λ (w : ℕ). 24 + w * used t.body ≤ length t.body) wide room in
          ((omega arith, omega (arith, fits)), ((omega arith, omega (arith, fits)), tt))

      go : (s : Bool) → is_super t.body ≡ s → AllByRecursion (λ c. (t.at ≤ change_at c) × (change_end c ≤ t.at + length t.body)) (index_changes ms t s)
      go true e =
          let wide = (super_kind t.body (super_index t.body tabled.1.kind_is e)).1 in
          let fits : 24 + 16 * used t.body ≤ length t.body = subst (λ (w : ℕ). 24 + w * used t.body ≤ length t.body) wide room in
          ((omega arith, omega (arith, fits)), tt)
      go false e = one e (first_counted (entries t.body))

  -- a span is clear of a table
  abbrev pub Clear : CutAt → Tabled → Type 0
  Clear k x = (stop x ≤ k.span.at) ⊎ ((k.span.at < (table_of x).at) × (k.span.at + k.span.len ≤ (table_of x).at))

  low_ends : (q low end : ℕ) (xs : List Tabled) → q < low → AllByRecursion (IsTabled b) xs → Ascend low (map (table_cut h base) xs) end → AllByRecursion (λ c. q < change_end c) (flat_map (changes_of ms base) xs)
  low_ends q low end [] lt tabled asc = tt
  low_ends q low end (x ∷ xs) lt tabled asc =
      all_append (λ c. q < change_end c) (changes_of ms base x) (flat_map (changes_of ms base) xs)
      (all_turn (λ c. ((table_of x).at ≤ change_at c) × (change_end c ≤ stop x)) (λ c. q < change_end c) (λ c p. more q (table_of x).at c (omega (arith, lt, asc.0)) p.0) (changes_of ms base x) (in_table x tabled.0))
      (low_ends q (stop x) end xs (omega (arith, lt, asc.0)) tabled.1 asc.1)
    where
      more : (q at : ℕ) (c : Change) → q < at → at ≤ change_at c → q < change_end c
      more q at c lt le = omega (arith, lt, le)

  -- the changes of tables up to a span, and behind it
  split : (k : CutAt) (low end : ℕ) (xs : List Tabled) → AllByRecursion (IsTabled b) xs → AllByRecursion (Clear k) xs → Ascend low (map (table_cut h base) xs) end
      → (changes_up_to k.span.at (flat_map (changes_of ms base) xs) ≡ flat_map (changes_of ms base) (ups k.span.at xs)) × (changes_behind k.span.at (flat_map (changes_of ms base) xs) ≡ flat_map (changes_of ms base) (downs k.span.at xs))
  split k low end [] tabled clear asc = (refl, refl)
  split k low end (x ∷ xs) tabled clear asc = go (cases_lt k.span.at (stop x)) clear.0 (split k (stop x) end xs tabled.1 clear.1 asc.1)
    where
      go : (k.span.at < stop x) ⊎ (stop x ≤ k.span.at) → (stop x ≤ k.span.at) ⊎ ((k.span.at < (table_of x).at) × (k.span.at + k.span.len ≤ (table_of x).at))
          → (changes_up_to k.span.at (flat_map (changes_of ms base) xs) ≡ flat_map (changes_of ms base) (ups k.span.at xs)) × (changes_behind k.span.at (flat_map (changes_of ms base) xs) ≡ flat_map (changes_of ms base) (downs k.span.at xs))
          → (changes_up_to k.span.at (flat_map (changes_of ms base) (x ∷ xs)) ≡ flat_map (changes_of ms base) (ups k.span.at (x ∷ xs))) × (changes_behind k.span.at (flat_map (changes_of ms base) (x ∷ xs)) ≡ flat_map (changes_of ms base) (downs k.span.at (x ∷ xs)))
      go (inr le) c again =
          let e : nat_le (stop x) k.span.at ≡ true = le-leb (stop x) k.span.at le in
          let f = up_front k.span.at (changes_of ms base x) (flat_map (changes_of ms base) xs)
          (all_turn (λ c. ((table_of x).at ≤ change_at c) × (change_end c ≤ stop x)) (λ c. change_end c ≤ k.span.at) (λ c p. less (stop x) k.span.at c le p.1) (changes_of ms base x) (in_table x tabled.0))
          in (
            f.0 ∙ ap (λ (cs : List Change). changes_of ms base x ++ cs) again.0 ∙ ap (λ (t : Bool). flat_map (changes_of ms base) (cond t (x ∷ ups k.span.at xs) [])) (sym e),
            f.1 ∙ again.1 ∙ ap (λ (t : Bool). flat_map (changes_of ms base) (cond t (downs k.span.at xs) (x ∷ xs))) (sym e),
          )
        where
          less : (s q : ℕ) (c : Change) → s ≤ q → change_end c ≤ s → change_end c ≤ q
          less s q c le p = omega (arith, le, p)
      go (inl lt) (inl le) again = absurd (omega (arith, lt, le))
      go (inl lt) (inr c) again =
          let e : nat_le (stop x) k.span.at ≡ false = lt-leb (stop x) k.span.at lt in
          let n = up_none k.span.at (flat_map (changes_of ms base) (x ∷ xs)) (low_ends k.span.at (table_of x).at end (x ∷ xs) c.0 tabled (omega arith, asc.1)) in (
            n.0 ∙ ap (λ (t : Bool). flat_map (changes_of ms base) (cond t (x ∷ ups k.span.at xs) [])) (sym e),
            n.1 ∙ ap (λ (t : Bool). flat_map (changes_of ms base) (cond t (downs k.span.at xs) (x ∷ xs))) (sym e),
          )

  -- ---- tables before a span

  -- what is behind spans that ascend
  left_front : (p q : ℕ) (cs : List Cut) (r s : List Cut) → Ascend p cs q → ((p : ℕ) → p ≤ q → left b p r ≡ left b p s) → left b p (cs ++ r) ≡ left b p (cs ++ s)
  left_front p q [] r s asc same = same p asc
  left_front p q (c ∷ cs) r s asc same =
      cut_more b p c (cs ++ r) asc.0 ∙ ap (λ (y : List ℕ). piece b p c.at ++ (c.bytes ++ y)) (left_front (end_of c) q cs r s asc.1 same) ∙ sym (cut_more b p c (cs ++ s) asc.0)

  behind_low : (q r : ℕ) (cs : List Cut) → q ≤ r → Behind r cs → Behind q cs
  behind_low q r [] le more = tt
  behind_low q r (c ∷ cs) le more = omega (arith, le, more)

  behind_of : (q : ℕ) (cs : List Change) (rest : List Cut) → AllByRecursion (λ c. q ≤ change_at c) cs → Behind q rest → Behind q (map (change_cut ms b) cs ++ rest)
  behind_of q [] rest all more = more
  behind_of q (c ∷ cs) rest all more = at_cut q c all.0
    where
      at_cut : (q : ℕ) (c : Change) → q ≤ change_at c → q ≤ (change_cut ms b c).at
      at_cut q (Rattle.avi_plan.specs.declared.table.Change.TheVariants.Rows f from rows) h = h
      at_cut q (Rattle.avi_plan.specs.declared.table.Change.TheVariants.Base at base) h = h

  behind_tables : (xs : List Tabled) (p q : ℕ) (rest : List Cut) → AllByRecursion (IsTabled b) xs → Ascend p (map (table_cut h base) xs) q → Behind q rest → Behind p (map (change_cut ms b) (flat_map (changes_of ms base) xs) ++ rest)
  behind_tables [] p q rest tabled asc more = behind_low p q rest asc more
  behind_tables (x ∷ xs) p q rest tabled asc more =
      let tail = map (change_cut ms b) (flat_map (changes_of ms base) xs) ++ rest in
      let again = behind_low p (stop x) tail (omega (arith, asc.0)) (behind_tables xs (stop x) q rest tabled.1 asc.1 more) in
      subst (Behind p)
      (sym (ap (λ (cs : List Cut). cs ++ rest) (map-append (change_cut ms b) (changes_of ms base x) (flat_map (changes_of ms base) xs)) ∙ append_assoc (map (change_cut ms b) (changes_of ms base x)) (map (change_cut ms b) (flat_map (changes_of ms base) xs)) rest))
      (behind_of p (changes_of ms base x) tail
      (all_turn (λ c. ((table_of x).at ≤ change_at c) × (change_end c ≤ stop x)) (λ c. p ≤ change_at c) (λ c i. low p (table_of x).at c asc.0 i.0) (changes_of ms base x) (in_table x tabled.0)) again)
    where
      low : (p at : ℕ) (c : Change) → p ≤ at → at ≤ change_at c → p ≤ change_at c
      low p at c le i = omega (arith, le, i)

  tables_before : (xs : List Tabled) (p q : ℕ) (rest : List Cut) → AllByRecursion (IsTabled b) xs → AllByRecursion (λ x. AllByRecursion (IsNamed ms b) (changes_of ms base x)) xs → Ascend p (map (table_cut h base) xs) q → Behind q rest
      → left b p (map (change_cut ms b) (flat_map (changes_of ms base) xs) ++ rest) ≡ left b p (map (table_cut h base) xs ++ rest)
  tables_before [] p q rest tabled named asc more = refl
  tables_before (x ∷ xs) p q rest tabled named asc more =
      let tail = map (change_cut ms b) (flat_map (changes_of ms base) xs) ++ rest in
      ap (left b p) (ap (λ (cs : List Cut). cs ++ rest) (map-append (change_cut ms b) (changes_of ms base x) (flat_map (changes_of ms base) xs)) ∙ append_assoc (map (change_cut ms b) (changes_of ms base x)) (map (change_cut ms b) (flat_map (changes_of ms base) xs)) rest)
      ∙ table_is ms b base x p tail tabled.0 asc.0 (behind_tables xs (stop x) q rest tabled.1 asc.1 more) named.0
      ∙ cut_more b p (table_cut h base x) tail asc.0
      ∙ ap (λ (y : List ℕ). piece b p (table_of x).at ++ (new_body h base x ++ y)) (tables_before xs (stop x) q rest tabled.1 named.1 asc.1 more)
      ∙ sym (cut_more b p (table_cut h base x) (map (table_cut h base) xs ++ rest) asc.0)

  -- ---- tables put among spans

  put_first : (c : Cut) (ds : List Cut) → Behind (end_of c) ds → put_cut c ds ≡ c ∷ ds
  put_first c [] more = refl
  put_first c (d ∷ ds) more = ap (λ (t : Bool). cond t (c ∷ (d ∷ ds)) (d ∷ put_cut c ds)) (le-leb (end_of c) d.at more)

  none_up : (q low end : ℕ) (xs : List Tabled) → q < low → Ascend low (map (table_cut h base) xs) end → (ups q xs ≡ []) × (downs q xs ≡ xs)
  none_up q low end [] lt asc = (refl, refl)
  none_up q low end (x ∷ xs) lt asc =
      let e : nat_le (stop x) q ≡ false = lt-leb (stop x) q (omega (arith, lt, asc.0)) in
      (ap (λ (t : Bool). cond t (x ∷ ups q xs) []) e, ap (λ (t : Bool). cond t (downs q xs) (x ∷ xs)) e)

  behind_ups : (q low end : ℕ) (xs : List Tabled) (rest : List Cut) → Ascend low (map (table_cut h base) xs) end → Behind low rest → Behind low (map (table_cut h base) (ups q xs) ++ rest)
  behind_ups q low end [] rest asc more = more
  behind_ups q low end (x ∷ xs) rest asc more = go (nat_le (stop x) q)
    where
      go : (t : Bool) → Behind low (map (table_cut h base) (cond t (x ∷ ups q xs) []) ++ rest)
      go true = asc.0
      go false = more

  put_split : (d : Cut) (ds : List Cut) (low end : ℕ) (xs : List Tabled) → Ascend low (map (table_cut h base) xs) end
      → put_cuts (map (table_cut h base) xs) (d ∷ ds) ≡ map (table_cut h base) (ups d.at xs) ++ (d ∷ put_cuts (map (table_cut h base) (downs d.at xs)) ds)
  put_split d ds low end [] asc = refl
  put_split d ds low end (x ∷ xs) asc = go (cases_lt d.at (stop x)) (put_split d ds (stop x) end xs asc.1)
    where
      go : (d.at < stop x) ⊎ (stop x ≤ d.at) → put_cuts (map (table_cut h base) xs) (d ∷ ds) ≡ map (table_cut h base) (ups d.at xs) ++ (d ∷ put_cuts (map (table_cut h base) (downs d.at xs)) ds)
          → put_cuts (map (table_cut h base) (x ∷ xs)) (d ∷ ds) ≡ map (table_cut h base) (ups d.at (x ∷ xs)) ++ (d ∷ put_cuts (map (table_cut h base) (downs d.at (x ∷ xs))) ds)
      go (inr le) again =
          let e : nat_le (stop x) d.at ≡ true = le-leb (stop x) d.at le in
          ap (put_cut (table_cut h base x)) again
          ∙ put_first (table_cut h base x) (map (table_cut h base) (ups d.at xs) ++ (d ∷ put_cuts (map (table_cut h base) (downs d.at xs)) ds)) (behind_ups d.at (stop x) end xs (d ∷ put_cuts (map (table_cut h base) (downs d.at xs)) ds) asc.1 le)
          ∙ ap (λ (t : Bool). map (table_cut h base) (cond t (x ∷ ups d.at xs) []) ++ (d ∷ put_cuts (map (table_cut h base) (cond t (downs d.at xs) (x ∷ xs))) ds)) (sym e)
      go (inl lt) again =
          let e : nat_le (stop x) d.at ≡ false = lt-leb (stop x) d.at lt in
          let n = none_up d.at (stop x) end xs lt asc.1 in
          ap (put_cut (table_cut h base x)) (again ∙ ap (λ (ys : List Tabled). map (table_cut h base) ys ++ (d ∷ put_cuts (map (table_cut h base) (downs d.at xs)) ds)) n.0 ∙ ap (λ (ys : List Tabled). d ∷ put_cuts (map (table_cut h base) ys) ds) n.1)
          ∙ ap (λ (t : Bool). cond t (table_cut h base x ∷ (d ∷ put_cuts (map (table_cut h base) xs) ds)) (d ∷ put_cut (table_cut h base x) (put_cuts (map (table_cut h base) xs) ds))) e
          ∙ ap (λ (t : Bool). map (table_cut h base) (cond t (x ∷ ups d.at xs) []) ++ (d ∷ put_cuts (map (table_cut h base) (cond t (downs d.at xs) (x ∷ xs))) ds)) (sym e)

  -- ---- both

  ups_ascend : (low q end : ℕ) (xs : List Tabled) → low ≤ q → Ascend low (map (table_cut h base) xs) end → Ascend low (map (table_cut h base) (ups q xs)) q
  ups_ascend low q end [] le asc = le
  ups_ascend low q end (x ∷ xs) le asc = go (cases_lt q (stop x)) (λ more. ups_ascend (stop x) q end xs more asc.1)
    where
      go : (q < stop x) ⊎ (stop x ≤ q) → (stop x ≤ q → Ascend (stop x) (map (table_cut h base) (ups q xs)) q) → Ascend low (map (table_cut h base) (ups q (x ∷ xs))) q
      go (inr more) again =
          let e : nat_le (stop x) q ≡ true = le-leb (stop x) q more in
          subst (λ (t : Bool). Ascend low (map (table_cut h base) (cond t (x ∷ ups q xs) [])) q) (sym e) (asc.0, again more)
      go (inl lt) again =
          let e : nat_le (stop x) q ≡ false = lt-leb (stop x) q lt in
          subst (λ (t : Bool). Ascend low (map (table_cut h base) (cond t (x ∷ ups q xs) [])) q) (sym e) le

  downs_ascend : (k : CutAt) (low end : ℕ) (xs : List Tabled) → k.span.at + k.span.len ≤ end → AllByRecursion (Clear k) xs → Ascend low (map (table_cut h base) xs) end → Ascend (k.span.at + k.span.len) (map (table_cut h base) (downs k.span.at xs)) end
  downs_ascend k low end [] le clear asc = le
  downs_ascend k low end (x ∷ xs) le clear asc = go (cases_lt k.span.at (stop x)) clear.0 (downs_ascend k (stop x) end xs le clear.1 asc.1)
    where
      go : (k.span.at < stop x) ⊎ (stop x ≤ k.span.at) → (stop x ≤ k.span.at) ⊎ ((k.span.at < (table_of x).at) × (k.span.at + k.span.len ≤ (table_of x).at)) → Ascend (k.span.at + k.span.len) (map (table_cut h base) (downs k.span.at xs)) end → Ascend (k.span.at + k.span.len) (map (table_cut h base) (downs k.span.at (x ∷ xs))) end
      go (inr more) c again =
          subst (λ (t : Bool). Ascend (k.span.at + k.span.len) (map (table_cut h base) (cond t (downs k.span.at xs) (x ∷ xs))) end) (sym (le-leb (stop x) k.span.at more)) again
      go (inl lt) (inl more) again = absurd (omega (arith, lt, more))
      go (inl lt) (inr c) again =
          subst (λ (t : Bool). Ascend (k.span.at + k.span.len) (map (table_cut h base) (cond t (downs k.span.at xs) (x ∷ xs))) end) (sym (lt-leb (stop x) k.span.at lt)) (c.1, asc.1)

  pub mixed_is : (ks : List CutAt) (xs : List Tabled) (p end : ℕ) → AllByRecursion (IsTabled b) xs → AllByRecursion (λ x. AllByRecursion (IsNamed ms b) (changes_of ms base x)) xs → AllByRecursion (λ k. AllByRecursion (Clear k) xs) ks
      → Ascend p (map (table_cut h base) xs) end → Ascend p (map (cut_in b) ks) end
      → left b p (merged ms b ks (flat_map (changes_of ms base) xs)) ≡ left b p (put_cuts (map (table_cut h base) xs) (map (cut_in b) ks))
  mixed_is [] xs p end tabled named clear asc order =
      ap (left b p) (sym (append-nil (map (change_cut ms b) (flat_map (changes_of ms base) xs)))) ∙ tables_before xs p end [] tabled named asc tt ∙ ap (left b p) (append-nil (map (table_cut h base) xs) ∙ sym (puts_none p xs asc))
    where
      puts_none : (low : ℕ) (xs : List Tabled) → Ascend low (map (table_cut h base) xs) end → put_cuts (map (table_cut h base) xs) [] ≡ map (table_cut h base) xs
      puts_none low [] asc = refl
      puts_none low (x ∷ xs) asc = ap (put_cut (table_cut h base x)) (puts_none (stop x) xs asc.1) ∙ put_first (table_cut h base x) (map (table_cut h base) xs) (first xs asc.1)
        where
          first : (xs : List Tabled) → Ascend (stop x) (map (table_cut h base) xs) end → Behind (stop x) (map (table_cut h base) xs)
          first [] asc = tt
          first (y ∷ ys) asc = asc.0
  mixed_is (k ∷ ks) xs p end tabled named clear asc order =
      let d = cut_in b k in
      let up = ups k.span.at xs in
      let down = downs k.span.at xs in
      let s = split k p end xs tabled clear.0 asc in
      let one = merged ms b ks (flat_map (changes_of ms base) (downs k.span.at xs)) in
      let two = put_cuts (map (table_cut h base) (downs k.span.at xs)) (map (cut_in b) ks) in
      let high : k.span.at + k.span.len ≤ end = last (k.span.at + k.span.len) (map (cut_in b) ks) order.1 in
      let down_asc = downs_ascend k p end xs high clear.0 asc in
      let again = mixed_is ks (downs k.span.at xs) (k.span.at + k.span.len) end (downs_all (IsTabled b) k.span.at xs tabled) (downs_all (λ x. AllByRecursion (IsNamed ms b) (changes_of ms base x)) k.span.at xs named) (clear_downs k ks clear.1) down_asc order.1 in
      ap (λ (cs : List Change). left b p (map (change_cut ms b) cs ++ (d ∷ merged ms b ks (changes_behind k.span.at (flat_map (changes_of ms base) xs))))) s.0
      ∙ ap (λ (cs : List Change). left b p (map (change_cut ms b) (flat_map (changes_of ms base) up) ++ (d ∷ merged ms b ks cs))) s.1
      ∙ tables_before up p k.span.at (d ∷ one) (ups_all (IsTabled b) k.span.at xs tabled) (ups_all (λ x. AllByRecursion (IsNamed ms b) (changes_of ms base x)) k.span.at xs named) (ups_ascend p k.span.at end xs order.0 asc) (omega arith)
      ∙ left_front p k.span.at (map (table_cut h base) up) (d ∷ one) (d ∷ two) (ups_ascend p k.span.at end xs order.0 asc)
      (λ q le. cut_more b q d one le ∙ ap (λ (y : List ℕ). piece b q d.at ++ (d.bytes ++ y)) again ∙ sym (cut_more b q d two le))
      ∙ ap (left b p) (sym (put_split d (map (cut_in b) ks) p end xs asc))
    where
      last : (from : ℕ) (cs : List Cut) → Ascend from cs end → from ≤ end
      last from [] asc = asc
      last from (c ∷ cs) asc = let more = last (end_of c) cs asc.1 in omega (arith, asc.0, more)

      clear_downs : (k : CutAt) (ks : List CutAt) → AllByRecursion (λ k. AllByRecursion (Clear k) xs) ks → AllByRecursion (λ j. AllByRecursion (Clear j) (downs k.span.at xs)) ks
      clear_downs k [] all = tt
      clear_downs k (j ∷ js) all = (downs_all (Clear j) k.span.at xs all.0, clear_downs k js all.1)
