-- The files of a batch, begun one by one.
use Rattle.std.proofs.Common.{◌≡◌, ℕ, zero, suc, ◌+◌, ◌≤◌, ◌<◌, List, [], ◌∷◌, ◌++◌, length, map, set, take, get_or, Option, Some, None, Result, Ok, Err, refl, sym, ap, ◌∙◌, subst, arith, inl, inr, ⊎_elim}
use Rattle.std.specs.Prelude.{◌⊎◌, IfOk, OnErr}
use Rattle.std.proofs.lemmas.Bool.{cases_eq}
use Rattle.std.proofs.lemmas.List.{get_or-set_other, get_or-set_same, length-set, take_more}
use Rattle.me_disk.specs.Disk.{Disk}
use Rattle.part_tree.specs.declared.field.EditItem.{EditItem}
use Rattle.file_swap.specs.Swap.{Swapping}
use Rattle.turn_batch.specs.Members.{fresh_member}
use Rattle.metaedit_top.specs.declared.batch.FileStart.{FileStart}
use Rattle.metaedit_top.specs.declared.batch.Started.{Started}
use Rattle.metaedit_top.specs.declared.batch_end.FileEnd.{FileEnd}
use Rattle.metaedit_top.specs.declared.batch_end.FileEnd.TheVariants as end
use Rattle.metaedit_top.specs.declared.batch_text.FileTexts.{FileTexts}
use Rattle.metaedit_top.specs.declared.outcome.Prepared.{Prepared}
use Rattle.metaedit_top.specs.declared.outcome.Stop.{Stop}
use Rattle.metaedit_top.specs.declared.words.Request.{Request}
use Rattle.metaedit_top.specs.Batch.{Begun, BegunAll, BegunTexts, OfBatch, OfDepots, Readies, StartsBatch, StaysOld, end_in, file_request, swap_in}
use Rattle.metaedit_top.specs.BatchText.{AreTextsOf, IsTextOf, end_line, fault_count, name_text}
use Rattle.metaedit_top.specs.BatchWords.{BatchParts, batch_parts}
use Rattle.metaedit_top.specs.Words.{Text, edit_of}
use Rattle.metaedit_top.proofs.Readied.{stays_here}

-- what stands behind a list is the next item
at_end : {A : Type 0} (xs : List A) (x z : A) → get_or (xs ++ x ∷ []) (length xs) z ≡ x
at_end [] x z = refl
at_end (y ∷ xs) x z = at_end xs x z

at_front : {A : Type 0} (xs : List A) (x z : A) (i : ℕ) → i < length xs → get_or (xs ++ x ∷ []) i z ≡ get_or xs i z
at_front [] x z i low = absurd (omega arith)
at_front (y ∷ xs) x z zero low = refl
at_front (y ∷ xs) x z (suc i) low = at_front xs x z i (omega arith)

pub at_any : {A : Type 0} (xs : List A) (i : ℕ) (x y : A) → i < length xs → get_or xs i x ≡ get_or xs i y
at_any [] i x y low = absurd (omega arith)
at_any (z ∷ xs) zero x y low = refl
at_any (z ∷ xs) (suc i) x y low = at_any xs i x y (omega arith)

pub length_more : {A : Type 0} (xs : List A) (x : A) → length (xs ++ x ∷ []) ≡ length xs + 1
length_more [] x = refl
length_more (y ∷ xs) x = let more = length_more xs x in omega arith

-- a file is begun by the answer that was given for it
pub begun_by : {E : Type 0} (q : Request) (a b : Disk) (answer : Result Prepared Stop) → Readies q a b answer
    → (e : FileEnd) (x : Option Swapping) → e ≡ end_in answer b.faults → x ≡ swap_in answer
    → (r : Result FileStart E) → IfOk r (λ s. s.end ≡ e) → IfOk r (λ s. s.swap ≡ x) → IfOk r (λ s. Begun q a b s.end s.swap)
begun_by q a b answer readied e x end_is swap_is (Ok s) same_end same_swap =
    record { answer = answer; readied = readied; end_is = same_end ∙ end_is; swap_is = same_swap ∙ swap_is }
begun_by q a b answer readied e x end_is swap_is (Err m) same_end same_swap = tt

-- so is the file of this number, whose depot was put back
pub begun_at : {D E : Type 0} (disk : D → Disk) (q : Request) (ds : List D) (i : ℕ) (x y : D) → i < length ds
    → (r : Result FileStart E) → IfOk r (λ s. Begun q (disk (get_or ds i x)) (disk y) s.end s.swap)
    → IfOk r (λ s. (d : D) → Begun q (disk (get_or ds i d)) (disk (get_or (set ds i y) i d)) s.end s.swap)
begun_at disk q ds i x y low (Ok s) begun = λ d.
    subst (λ (z : _). Begun q (disk z) (disk (get_or (set ds i y) i d)) s.end s.swap) (at_any ds i x d low)
    (subst (λ (z : _). Begun q (disk (get_or ds i x)) (disk z) s.end s.swap) (sym (get_or-set_same ds i y d low)) begun)
begun_at disk q ds i x y low (Err m) begun = tt

-- the first k files are begun, and the other depots are as they were
pub record StartsFront {D : Type 0} (disk : D → Disk) (e : List EditItem) (files : List Text) (k : ℕ) (before after : List D) (ends : List FileEnd) (swaps : List (Option Swapping)) : Type 0 where
  pub depots : length after ≡ length before
  pub counted : length ends ≡ k
  pub swapped : length swaps ≡ k
  pub each : (i : ℕ) (d : D) (x : FileEnd) → i < k → Begun (file_request e (get_or files i [])) (disk (get_or before i d)) (disk (get_or after i d)) (get_or ends i x) (get_or swaps i None)
  pub rest : (i : ℕ) (d : D) → k ≤ i → get_or after i d ≡ get_or before i d

pub front_first : {D : Type 0} (disk : D → Disk) (e : List EditItem) (files : List Text) (ds : List D) → StartsFront disk e files 0 ds ds [] []
front_first disk e files ds = record { depots = refl; counted = refl; swapped = refl; each = λ i d x low. absurd (omega arith); rest = λ i d high. refl }

pub front_all : {D : Type 0} (disk : D → Disk) (e : List EditItem) (files : List Text) (ds ds' : List D) (ends : List FileEnd) (swaps : List (Option Swapping)) (k : ℕ) → k ≡ length files
    → StartsFront disk e files k ds ds' ends swaps → BegunAll disk e files ds ds' ends swaps
front_all disk e files ds ds' ends swaps k all front = record {
  depots = front.depots;
  counted = front.counted ∙ all;
  swapped = front.swapped ∙ all;
  each = λ i d x low. front.each i d x (omega (arith, low, all));
}

module _ {D : Type 0} (disk : D → Disk) (e : List EditItem) (files : List Text) (k : ℕ) (before after : List D) (ends : List FileEnd) (swaps : List (Option Swapping)) (front : StartsFront disk e files k before after ends swaps) where
  -- none was edited so far
  stays_at : (i : ℕ) (d : D) → StaysOld (disk (get_or before i d)) (disk (get_or after i d))
  stays_at i d =
      ⊎_elim
      (λ (low : i < k). (front.each i d (end.Memory) low).readied.stays)
      (λ (high : k ≤ i). subst (λ (x : D). StaysOld (disk (get_or before i d)) (disk x)) (sym (front.rest i d high)) (stays_here (disk (get_or before i d))))
      (low_or i k)
    where
      low_or : (i k : ℕ) → (i < k) ⊎ (k ≤ i)
      low_or i zero = inr (omega arith)
      low_or zero (suc k) = inl (omega arith)
      low_or (suc i) (suc k) = ⊎_elim (λ low. inl (omega (arith, low))) (λ high. inr (omega (arith, high))) (low_or i k)

  pub stays_all : OfDepots disk before after StaysOld
  unfolding stays_at
  stays_all = record { depots = front.depots; each = λ i d low. stays_at i d }

  -- one more
  module _ (next : List D) (others : (d : D) → next ≡ set after k (get_or next k d)) (low : k < length before) where
    same : (i : ℕ) (d : D) → (i ≡ k → ⊥) → get_or next i d ≡ get_or after i d
    same i d other = ap (λ (xs : List D). get_or xs i d) (others d) ∙ get_or-set_other after k i (get_or next k d) d other

    size : (d : D) → length next ≡ length before
    size d = ap (λ (xs : List D). length xs) (others d) ∙ length-set after k (get_or next k d) ∙ front.depots

    some_depot : D
    some_depot = go before low
      where
        go : (ds : List D) → k < length ds → D
        go [] h = absurd (omega (arith, h))
        go (d ∷ ds) h = d

    pub stays_more : ((d : D) → StaysOld (disk (get_or after k d)) (disk (get_or next k d))) → OfDepots disk before next StaysOld
    unfolding same size some_depot stays_at
    stays_more stays = record {
      depots = size some_depot;
      each = λ i d inside.
          ⊎_elim
          (λ (here : i ≡ k).
          let now = stays d in
          let was : get_or after k d ≡ get_or before k d = front.rest k d (omega arith) in
          subst (λ (j : ℕ). StaysOld (disk (get_or before j d)) (disk (get_or next j d))) (sym here) (subst (λ (x : D). StaysOld (disk x) (disk (get_or next k d))) was now))
          (λ (other : i ≡ k → ⊥). subst (λ (x : D). StaysOld (disk (get_or before i d)) (disk x)) (sym (same i d other)) (stays_at i d))
          (cases_eq i k);
    }

    pub front_more : (y : FileEnd) (s : Option Swapping) → ((d : D) → Begun (file_request e (get_or files k [])) (disk (get_or after k d)) (disk (get_or next k d)) y s)
        → StartsFront disk e files (k + 1) before next (ends ++ y ∷ []) (swaps ++ s ∷ [])
    unfolding same size some_depot
    front_more y s begun = record {
      depots = size some_depot;
      counted = length_more ends y ∙ ap (λ (n : ℕ). n + 1) front.counted;
      swapped = length_more swaps s ∙ ap (λ (n : ℕ). n + 1) front.swapped;
      each = λ i d x inside.
          ⊎_elim
          (λ (here : i ≡ k).
          let was : get_or after k d ≡ get_or before k d = front.rest k d (omega arith) in
          let end_at : get_or (ends ++ y ∷ []) k x ≡ y = subst (λ (n : ℕ). get_or (ends ++ y ∷ []) n x ≡ y) front.counted (at_end ends y x) in
          let swap_at : get_or (swaps ++ s ∷ []) k None ≡ s = subst (λ (n : ℕ). get_or (swaps ++ s ∷ []) n None ≡ s) front.swapped (at_end swaps s None) in
          subst (λ (j : ℕ). Begun (file_request e (get_or files j [])) (disk (get_or before j d)) (disk (get_or next j d)) (get_or (ends ++ y ∷ []) j x) (get_or (swaps ++ s ∷ []) j None)) (sym here)
          (subst (λ (z : FileEnd). Begun (file_request e (get_or files k [])) (disk (get_or before k d)) (disk (get_or next k d)) z (get_or (swaps ++ s ∷ []) k None)) (sym end_at)
          (subst (λ (z : Option Swapping). Begun (file_request e (get_or files k [])) (disk (get_or before k d)) (disk (get_or next k d)) y z) (sym swap_at)
          (subst (λ (z : D). Begun (file_request e (get_or files k [])) (disk z) (disk (get_or next k d)) y s) was (begun d)))))
          (λ (other : i ≡ k → ⊥).
          let lower : i < k = omega (arith, inside, other) in
          let size_e = front.counted in
          let size_s = front.swapped in
          let end_at : get_or (ends ++ y ∷ []) i x ≡ get_or ends i x = at_front ends y x i (omega arith) in
          let swap_at : get_or (swaps ++ s ∷ []) i None ≡ get_or swaps i None = at_front swaps s None i (omega arith) in
          subst (λ (z : FileEnd). Begun (file_request e (get_or files i [])) (disk (get_or before i d)) (disk (get_or next i d)) z (get_or (swaps ++ s ∷ []) i None)) (sym end_at)
          (subst (λ (z : Option Swapping). Begun (file_request e (get_or files i [])) (disk (get_or before i d)) (disk (get_or next i d)) (get_or ends i x) z) (sym swap_at)
          (subst (λ (z : D). Begun (file_request e (get_or files i [])) (disk (get_or before i d)) (disk z) (get_or ends i x) (get_or swaps i None)) (sym (same i d other)) (front.each i d x lower))))
          (cases_eq i k);
      rest = λ i d high. same i d (λ here. absurd (omega (arith, here, high))) ∙ front.rest i d (omega (arith, high));
    }

    -- the file by the word that was read
    pub front_told : (w : Text) → w ≡ get_or files k w → k < length files → (y : FileEnd) (s : Option Swapping)
        → ((d : D) → Begun (file_request e w) (disk (get_or after k d)) (disk (get_or next k d)) y s) → StartsFront disk e files (k + 1) before next (ends ++ y ∷ []) (swaps ++ s ∷ [])
    unfolding front_more
    front_told w w_is named y s begun =
        front_more y s (λ d. subst (λ (x : Text). Begun (file_request e x) (disk (get_or after k d)) (disk (get_or next k d)) y s) (w_is ∙ at_any files k w [] named) (begun d))

-- ---- the texts

pub texts_first : (files : List Text) → BegunTexts (take 0 files) [] []
texts_first files = record { names = refl; lines = tt }

map_more : {A B : Type 0} (f : A → B) (xs : List A) (x : A) → map f (xs ++ x ∷ []) ≡ map f xs ++ f x ∷ []
map_more f [] x = refl
map_more f (y ∷ xs) x = ap (λ (zs : List _). f y ∷ zs) (map_more f xs x)

lines_behind : (ts : List FileTexts) (es : List FileEnd) (t : FileTexts) (e : FileEnd) → AreTextsOf ts es → IsTextOf t e → AreTextsOf (ts ++ t ∷ []) (es ++ e ∷ [])
lines_behind [] [] t e h is = (is, tt)
lines_behind [] (x ∷ es) t e h is = absurd h
lines_behind (x ∷ ts) [] t e h is = absurd h
lines_behind (x ∷ ts) (y ∷ es) t e h is = (h.0, lines_behind ts es t e h.1 is)

pub texts_more : (files : List Text) (k : ℕ) (ends : List FileEnd) (texts : List FileTexts) (e : FileEnd) (t : FileTexts) → k < length files → BegunTexts (take k files) ends texts
    → t.name ≡ name_text (get_or files k []) → t.line ≡ end_line e → BegunTexts (take (k + 1) files) (ends ++ e ∷ []) (texts ++ t ∷ [])
texts_more files k ends texts e t low begun name line = record {
  names =
      map_more (λ (x : FileTexts). x.name) texts t
      ∙ ap (λ (ns : List (List ℕ)). ns ++ t.name ∷ []) begun.names
      ∙ ap (λ (n : List ℕ). map name_text (take k files) ++ n ∷ []) name
      ∙ sym (map_more name_text (take k files) (get_or files k []))
      ∙ ap (map name_text) (sym (take_more files k [] low));
  lines = lines_behind texts ends t e begun.lines (λ none. line);
}

pub texts_told : (files : List Text) (k : ℕ) (ends : List FileEnd) (texts : List FileTexts) (w : Text) → w ≡ get_or files k w → (e : FileEnd) (t : FileTexts) → k < length files
    → BegunTexts (take k files) ends texts → t.name ≡ name_text w → t.line ≡ end_line e → BegunTexts (take (k + 1) files) (ends ++ e ∷ []) (texts ++ t ∷ [])
texts_told files k ends texts w w_is e t low begun name line = texts_more files k ends texts e t low begun (name ∙ ap name_text (w_is ∙ at_any files k w [] low)) line

-- the texts of files whose devices failed since
pub texts_since : (ts : List FileTexts) (es es' : List FileEnd) → AreTextsOf ts es → length es' ≡ length es
    → ((i : ℕ) (x : FileEnd) → i < length es → fault_count (get_or es' i x) ≡ None → get_or es' i x ≡ get_or es i x) → AreTextsOf ts es'
texts_since [] [] [] h size since = tt
texts_since [] [] (e ∷ es') h size since = absurd (omega (arith, size))
texts_since [] (e ∷ es) es' h size since = absurd h
texts_since (t ∷ ts) [] es' h size since = absurd h
texts_since (t ∷ ts) (e ∷ es) [] h size since = absurd (omega (arith, size))
texts_since (t ∷ ts) (e ∷ es) (e' ∷ es') h size since = (
  λ none.
      let same : e' ≡ e = since 0 e (omega arith) none in
      h.0 (ap fault_count (sym same) ∙ none) ∙ ap end_line (sym same),
  texts_since ts es es' h.1 (omega (arith, size)) (λ i x low. since (suc i) x (omega (arith, low))),
)

-- ---- the whole

pub on_err : {A E : Type 0} (r : Result A E) (P : Type 0) → P → OnErr r P
on_err (Ok x) P h = tt
on_err (Err e) P h = h

-- no depot was touched
pub all_stay : {D : Type 0} (disk : D → Disk) (ds : List D) → OfDepots disk ds ds StaysOld
all_stay disk ds = record { depots = refl; each = λ i d low. stays_here (disk (get_or ds i d)) }

-- what is started of the files that the words name
pub starts_by : {D E : Type 0} (disk : D → Disk) (words : List Text) (p : BatchParts) → batch_parts words ≡ Some p
    → (e : List EditItem) → edit_of (p.item ∷ []) ≡ Ok e → (before after : List D) (r : Result Started E)
    → IfOk r (λ s. (swaps : List (Option Swapping)) × (s.batch ≡ map fresh_member swaps) × BegunAll disk e p.files before after s.ends.items swaps)
    → IfOk r (λ s. BegunTexts p.files s.ends.items s.texts.items) → IfOk r (λ s. length s.left.items ≡ length p.files)
    → IfOk r (λ s. OfBatch words (λ q. StartsBatch disk q before after s))
starts_by disk words p is e edit before after (Ok s) begun texts left = record {
  parts = p;
  is = is;
  holds = record { edit = e; is = edit; swaps = begun.0; members = begun.1; begun = begun.2; texts = texts; left = left };
}
starts_by disk words p is e edit before after (Err m) begun texts left = tt
