-- One segment more, and one span or change more of those that are left.
use Rattle.std.proofs.Common.{◌≡◌, ◌∙◌, ℕ, zero, suc, ◌+◌, ◌-◌, ◌≤◌, ◌<◌, Bool, true, false, cond, List, [], ◌∷◌, ◌++◌, length, map, take, drop, get_or, refl, sym, ap, subst, arith, append_assoc, append-nil}
use Rattle.std.specs.Prelude.{nat_le, Result, OnOk}
use Rattle.std.specs.declared.result.Result.TheVariants.{Ok, Err}
use Rattle.std.specs.List.{AllByRecursion, flat_map}
use Rattle.std.proofs.lemmas.Bool.{le-leb, lt-leb}
use Rattle.std.proofs.lemmas.List.{drop-drop, drop_all, get_or_default, take_all, length-drop, length-replicate}
use Rattle.part_tree.specs.Moves.{Move}
use Rattle.part_tree.specs.Plans.{AllBased, AllNamed, IsBased, Named, segment_bytes}
use Rattle.part_tree.specs.declared.plan.Segment.{Segment}
use Rattle.container_model.specs.Splice.{Cut, splice_from}
use Rattle.unit_plan.specs.declared.cut.CutAt.{CutAt}
use Rattle.unit_plan.specs.Cuts.{SpansAscend, cut_in}
use Rattle.unit_plan.proofs.Spans.{next_item}
use Rattle.unit_plan.proofs.Spliced.{span_small}
use Rattle.avi_plan.specs.Changes.{KeepsWidth, IsSound, change_at, change_cut, change_end, change_len, changes_behind, changes_up_to, merged}
use Rattle.avi_plan.specs.declared.table.Change.{Change}
use Rattle.avi_plan.specs.declared.table.Change.TheVariants as change

-- ---- one segment more

based_more : (ss : List Segment) (s : Segment) → AllBased ss → IsBased s → AllBased (ss ++ s ∷ [])
based_more [] s h i = (i, tt)
based_more (x ∷ ss) s h i = (h.0, based_more ss s h.1 i)

pub all_based : (ss new : List Segment) (s : Segment) → new ≡ ss ++ s ∷ [] → AllBased ss → IsBased s → AllBased new
all_based ss new s e h i = subst AllBased (sym e) (based_more ss s h i)

named_more : (ms : List Move) (b : List ℕ) (ss : List Segment) (s : Segment) → AllNamed ms b ss → Named ms b s → AllNamed ms b (ss ++ s ∷ [])
named_more ms b [] s h i = (i, tt)
named_more ms b (x ∷ ss) s h i = (h.0, named_more ms b ss s h.1 i)

pub all_named : (ms : List Move) (b : List ℕ) (ss new : List Segment) (s : Segment) → new ≡ ss ++ s ∷ [] → AllNamed ms b ss → Named ms b s → AllNamed ms b new
all_named ms b ss new s e h i = subst (AllNamed ms b) (sym e) (named_more ms b ss s h i)

bytes_more : (ms : List Move) (b : List ℕ) (ss : List Segment) (s : Segment) → flat_map (segment_bytes ms b) (ss ++ s ∷ []) ≡ flat_map (segment_bytes ms b) ss ++ segment_bytes ms b s
bytes_more ms b [] s = append-nil (segment_bytes ms b s)
bytes_more ms b (x ∷ ss) s = ap (λ (y : List ℕ). segment_bytes ms b x ++ y) (bytes_more ms b ss s) ∙ sym (append_assoc (segment_bytes ms b x) (flat_map (segment_bytes ms b) ss) (segment_bytes ms b s))

pub all_bytes : (ms : List Move) (b : List ℕ) (ss new : List Segment) (s : Segment) → new ≡ ss ++ s ∷ [] → flat_map (segment_bytes ms b) new ≡ flat_map (segment_bytes ms b) ss ++ segment_bytes ms b s
all_bytes ms b ss new s e = ap (flat_map (segment_bytes ms b)) e ∙ bytes_more ms b ss s

-- two parts more
pub two_more : (old mid new a c : List ℕ) → mid ≡ old ++ a → new ≡ mid ++ c → new ≡ old ++ (a ++ c)
two_more old mid new a c e f = f ∙ ap (λ (x : List ℕ). x ++ c) e ∙ append_assoc old a c

pub three_more : (old one two new a b c d : List ℕ) → one ≡ old ++ a → two ≡ one ++ d → d ≡ b → new ≡ two ++ c → new ≡ old ++ (a ++ (b ++ c))
three_more old one two new a b c d e f g h = h ∙ ap (λ (x : List ℕ). x ++ c) (f ∙ ap (λ (x : List ℕ). x ++ d) e ∙ ap (λ (x : List ℕ). (old ++ a) ++ x) g) ∙ regroup old a b c
  where
    regroup : (old a b c : List ℕ) → ((old ++ a) ++ b) ++ c ≡ old ++ (a ++ (b ++ c))
    regroup old a b c = simp append_assoc

-- nothing copied
pub no_copy : (at end : ℕ) (b old : List ℕ) → end - at ≡ 0 → old ≡ old ++ take (end - at) (drop at b)
no_copy at end b old none = sym (ap (λ (n : ℕ). old ++ take n (drop at b)) none ∙ append-nil old)

-- ---- what is left

-- what stands in the place of a span, before what is left
pub one_more : (b : List ℕ) (at end : ℕ) (c : Cut) (made next : List ℕ) (rest : List Cut) → at ≤ c.at → end ≡ c.at + c.len
    → next ≡ made ++ (take (c.at - at) (drop at b) ++ c.bytes)
    → next ++ splice_from end (drop end b) rest ≡ made ++ splice_from at (drop at b) (c ∷ rest)
one_more b at end c made next rest le is e =
    let copy = take (c.at - at) (drop at b) in
    let stop = c.at + c.len in
    let behind : drop stop b ≡ drop (stop - at) (drop at b) = sym (drop-drop (stop - at) at b ∙ ap (λ (n : ℕ). drop n b) (omega (arith, le))) in
    ap (λ (n : ℕ). next ++ splice_from n (drop n b) rest) is
    ∙ ap (λ (x : List ℕ). x ++ splice_from stop (drop stop b) rest) e
    ∙ regroup made copy c.bytes (splice_from stop (drop stop b) rest)
    ∙ ap (λ (x : List ℕ). made ++ (copy ++ (c.bytes ++ splice_from stop x rest))) behind
  where
    regroup : (a b c d : List ℕ) → (a ++ (b ++ c)) ++ d ≡ a ++ (b ++ (c ++ d))
    regroup a b c d = simp append_assoc

-- behind the last span
pub last_more : (b made next all : List ℕ) (at len : ℕ) → length b ≡ len → next ≡ made ++ take (len - at) (drop at b) → made ++ splice_from at (drop at b) [] ≡ all → next ≡ all
last_more b made next all at len is e h = e ∙ ap (λ (x : List ℕ). made ++ x) (take_all (len - at) (drop at b) (omega (arith, length-drop at b, is))) ∙ h

-- the first of the changes that are left, where it ends at a place or before it
pub up_to_more : (p : ℕ) (cs : List Change) (i : ℕ) (c : Change) → i < length cs → c ≡ get_or cs i c → change_end c ≤ p → changes_up_to p (drop i cs) ≡ c ∷ changes_up_to p (drop (i + 1) cs)
up_to_more p cs i c lt e le =
    ap (changes_up_to p) (next_item cs i c lt e) ∙ ap (λ (u : Bool). cond u (c ∷ changes_up_to p (drop (i + 1) cs)) []) (le-leb (change_end c) p le)

pub up_to_none : (p : ℕ) (cs : List Change) (i : ℕ) (c : Change) → i < length cs → c ≡ get_or cs i c → p < change_end c → changes_up_to p (drop i cs) ≡ []
up_to_none p cs i c lt e le =
    ap (changes_up_to p) (next_item cs i c lt e) ∙ ap (λ (u : Bool). cond u (c ∷ changes_up_to p (drop (i + 1) cs)) []) (lt-leb (change_end c) p le)

pub up_to_end : (p : ℕ) (cs : List Change) (i : ℕ) → length cs ≤ i → changes_up_to p (drop i cs) ≡ []
up_to_end p cs i past = ap (changes_up_to p) (drop_all i cs past)

-- those behind it are what is left behind those
pub behind_is : (p : ℕ) (cs : List Change) → changes_behind p cs ≡ drop (length (changes_up_to p cs)) cs
behind_is p [] = refl
behind_is p (c ∷ cs) = go (nat_le (change_end c) p) (behind_is p cs)
  where
    go : (u : Bool) → changes_behind p cs ≡ drop (length (changes_up_to p cs)) cs
        → cond u (changes_behind p cs) (c ∷ cs) ≡ drop (length (cond u (c ∷ changes_up_to p cs) [])) (c ∷ cs)
    go true again = again
    go false again = refl

pub behind_from : (p : ℕ) (cs : List Change) (i n : ℕ) → n ≡ i + length (changes_up_to p (drop i cs)) → changes_behind p (drop i cs) ≡ drop n cs
behind_from p cs i n e =
    behind_is p (drop i cs) ∙ drop-drop (length (changes_up_to p (drop i cs))) i cs ∙ ap (λ (k : ℕ). drop k cs) (sym e)

-- an item among those of which something holds
pub all_at : {X : Type 0} (P : X → Type 0) (xs : List X) (i : ℕ) (x : X) → i < length xs → x ≡ get_or xs i x → AllByRecursion P xs → P x
all_at P [] i x lt e h = absurd (omega (arith, lt))
all_at P (y ∷ xs) zero x lt e h = subst P (sym e) h.0
all_at P (y ∷ xs) (suc i) x lt e h = all_at P xs i x (omega (arith, lt)) e h.1

pub all_weaken : {X : Type 0} (P Q : X → Type 0) → ((x : X) → P x → Q x) → (xs : List X) → AllByRecursion P xs → AllByRecursion Q xs
all_weaken P Q f [] h = tt
all_weaken P Q f (x ∷ xs) h = (f x h.0, all_weaken P Q f xs h.1)

pub sound_wide : (len : ℕ) (c : Change) → IsSound len c → KeepsWidth c
sound_wide len (change.Rows form from rows) h = h.0
sound_wide len (change.Base at base) h = tt

-- the spans and changes that are left, with the next span
pub merged_more : (ms : List Move) (b : List ℕ) (ks : List CutAt) (cs : List Change) (i : ℕ) (k : CutAt) (next new : ℕ) → i < length ks → k ≡ get_or ks i k
    → new ≡ next + length (changes_up_to k.span.at (drop next cs))
    → merged ms b (drop i ks) (drop next cs) ≡ map (change_cut ms b) (changes_up_to k.span.at (drop next cs)) ++ cut_in b k ∷ merged ms b (drop (i + 1) ks) (drop new cs)
merged_more ms b ks cs i k next new lt e is =
    ap (λ (xs : List CutAt). merged ms b xs (drop next cs)) (next_item ks i k lt e)
    ∙ ap (λ (us : List Change). map (change_cut ms b) (changes_up_to k.span.at (drop next cs)) ++ cut_in b k ∷ merged ms b (drop (i + 1) ks) us) (behind_from k.span.at cs next new is)

-- none is left where all were met
pub all_up_to : (p : ℕ) (cs : List Change) (i : ℕ) → i ≤ length cs → i + length (changes_up_to p (drop i cs)) ≡ length cs → changes_up_to p (drop i cs) ≡ drop i cs
all_up_to p cs i le e = whole p (drop i cs) (omega (arith, length-drop i cs, e, le))
  where
    few : (p : ℕ) (us : List Change) → length (changes_up_to p us) ≤ length us
    few p [] = omega arith
    few p (u ∷ us) = go (nat_le (change_end u) p) (few p us)
      where
        go : (t : Bool) → length (changes_up_to p us) ≤ length us → length (cond t (u ∷ changes_up_to p us) []) ≤ suc (length us)
        go true h = omega (arith, h)
        go false h = omega arith

    whole : (p : ℕ) (us : List Change) → length us ≤ length (changes_up_to p us) → changes_up_to p us ≡ us
    whole p [] h = refl
    whole p (u ∷ us) h = go (nat_le (change_end u) p) h (whole p us)
      where
        go : (t : Bool) → suc (length us) ≤ length (cond t (u ∷ changes_up_to p us) []) → (length us ≤ length (changes_up_to p us) → changes_up_to p us ≡ us) → cond t (u ∷ changes_up_to p us) [] ≡ u ∷ us
        go true h again = ap (λ (vs : List Change). u ∷ vs) (again (omega (arith, h)))
        go false h again = absurd (omega (arith, h))

-- no spans are left
pub merged_last : (ms : List Move) (b : List ℕ) (ks : List CutAt) (cs : List Change) (i next : ℕ) → length ks ≤ i → merged ms b (drop i ks) (drop next cs) ≡ map (change_cut ms b) (drop next cs)
merged_last ms b ks cs i next past = ap (λ (xs : List CutAt). merged ms b xs (drop next cs)) (drop_all i ks past)

-- ---- as the functions say it

pub ok_map : {T E : Type 0} (r : Result T E) (P Q : Type 0) → (P → Q) → OnOk r P → OnOk r Q
ok_map (Ok x) P Q f h = f h
ok_map (Err e) P Q f h = h

pub sound_inside : (len : ℕ) (c : Change) → IsSound len c → change_at c ≤ len
sound_inside len (change.Rows form from rows) h = omega (arith, h.2)
sound_inside len (change.Base at base) h = omega (arith, h)

-- the last bytes of a span are kept
pub kept_tail : (old new b : List ℕ) (e end keep : ℕ) → e ≡ end → keep ≤ end → new ≡ old ++ take (e - (e - keep)) (drop (e - keep) b) → new ≡ old ++ take keep (drop (end - keep) b)
kept_tail old new b e end keep is le h =
    let n : e - (e - keep) ≡ keep = omega (arith, is, le) in
    h ∙ ap (λ (k : ℕ). old ++ take k (drop (e - keep) b)) n ∙ ap (λ (k : ℕ). old ++ take keep (drop (k - keep) b)) is

-- no change is left
pub left_none : (ms : List Move) (b : List ℕ) (at : ℕ) (rest : List Cut) (made : List ℕ) (us : List Change) → us ≡ []
    → made ++ splice_from at (drop at b) rest ≡ made ++ splice_from at (drop at b) (map (change_cut ms b) us ++ rest)
left_none ms b at rest made us none = ap (λ (vs : List Change). made ++ splice_from at (drop at b) (map (change_cut ms b) vs ++ rest)) (sym none)

-- one change more of those that are left
pub step_more : (ms : List Move) (b : List ℕ) (at end : ℕ) (c : Change) (made next : List ℕ) (us vs : List Change) (rest : List Cut) → us ≡ c ∷ vs → at ≤ change_at c → end ≡ change_at c + change_len c
    → next ≡ made ++ (take (change_at c - at) (drop at b) ++ (change_cut ms b c).bytes)
    → next ++ splice_from end (drop end b) (map (change_cut ms b) vs ++ rest) ≡ made ++ splice_from at (drop at b) (map (change_cut ms b) us ++ rest)
step_more ms b at end (change.Rows form from rows) made next us vs rest more le is e =
    one_more b at end (change_cut ms b (change.Rows form from rows)) made next (map (change_cut ms b) vs ++ rest) le is e
    ∙ ap (λ (xs : List Change). made ++ splice_from at (drop at b) (map (change_cut ms b) xs ++ rest)) (sym more)
step_more ms b at end (change.Base p base) made next us vs rest more le is e =
    one_more b at end (change_cut ms b (change.Base p base)) made next (map (change_cut ms b) vs ++ rest) le is e
    ∙ ap (λ (xs : List Change). made ++ splice_from at (drop at b) (map (change_cut ms b) xs ++ rest)) (sym more)

-- the change of a number, whatever stands for one behind the last
pub more_at : (p : ℕ) (cs : List Change) (i e : ℕ) (d : Change) → i < length cs → e ≡ change_at (get_or cs i d) + change_len (get_or cs i d) → e ≤ p
    → changes_up_to p (drop i cs) ≡ get_or cs i d ∷ changes_up_to p (drop (i + 1) cs)
more_at p cs i e d lt is le = up_to_more p cs i (get_or cs i d) lt (get_or_default cs i d (get_or cs i d) lt) (omega (arith, is, le))

pub none_at : (p : ℕ) (cs : List Change) (i e : ℕ) (d : Change) → i < length cs → e ≡ change_at (get_or cs i d) + change_len (get_or cs i d) → p < e → changes_up_to p (drop i cs) ≡ []
none_at p cs i e d lt is low = up_to_none p cs i (get_or cs i d) lt (get_or_default cs i d (get_or cs i d) lt) (omega (arith, is, low))

pub all_or : {X : Type 0} (P : X → Type 0) (xs : List X) (i : ℕ) (d : X) → i < length xs → AllByRecursion P xs → P (get_or xs i d)
all_or P xs i d lt h = all_at P xs i (get_or xs i d) lt (get_or_default xs i d (get_or xs i d) lt) h

pub all_sound_wide : (len : ℕ) (cs : List Change) → AllByRecursion (IsSound len) cs → AllByRecursion KeepsWidth cs
all_sound_wide len cs h = all_weaken (IsSound len) KeepsWidth (sound_wide len) cs h

-- a span of those that ascend
pub span_at : (low end : ℕ) (ks : List CutAt) (i : ℕ) (k : CutAt) → i < length ks → k ≡ get_or ks i k → SpansAscend low ks end → (k.keep ≤ k.span.len) × (k.span.at + k.span.len ≤ end)
span_at low end [] i k lt e h = absurd (omega (arith, lt))
span_at low end (x ∷ ks) zero k lt e h =
    (subst (λ (y : CutAt). y.keep ≤ y.span.len) (sym e) h.1, span_small low end (x ∷ ks) 0 k lt e h)
span_at low end (x ∷ ks) (suc i) k lt e h = span_at (x.span.at + x.span.len) end ks i k (omega (arith, lt)) e h.2

-- no span is left, and all changes are made
pub last_left : (ms : List Move) (b : List ℕ) (ks : List CutAt) (cs : List Change) (i next last len at mat : ℕ) (made mid final all : List ℕ) → length ks ≤ i → next ≤ length cs
    → last ≡ next + length (changes_up_to len (drop next cs)) → last ≡ length cs → length b ≡ len → final ≡ mid ++ take (len - at) (drop at b)
    → mid ++ splice_from at (drop at b) [] ≡ made ++ splice_from mat (drop mat b) (map (change_cut ms b) (changes_up_to len (drop next cs)) ++ [])
    → made ++ splice_from mat (drop mat b) (merged ms b (drop i ks) (drop next cs)) ≡ all → final ≡ all
last_left ms b ks cs i next last len at mat made mid final all past inside is whole long e h k =
    last_more b mid final all at len long e
    (h
    ∙ ap (λ (us : List Change). made ++ splice_from mat (drop mat b) (map (change_cut ms b) us ++ [])) (all_up_to len cs next inside (omega (arith, is, whole)))
    ∙ ap (λ (xs : List Cut). made ++ splice_from mat (drop mat b) xs) (append-nil (map (change_cut ms b) (drop next cs)) ∙ sym (merged_last ms b ks cs i next past))
    ∙ k)

-- a file of so many bytes
abbrev pub zeros : ℕ → List ℕ
zeros n = Rattle.std.proofs.Common.replicate n 0

pub zeros_long : (n : ℕ) → length (zeros n) ≡ n
zeros_long n = length-replicate n 0

pub long_sound : (n : ℕ) (cs : List Change) → AllByRecursion (IsSound n) cs → AllByRecursion (IsSound (length (zeros n))) cs
long_sound n cs h = subst (λ (k : ℕ). AllByRecursion (IsSound k) cs) (sym (zeros_long n)) h
