-- Texts printed one behind the other.
use Rattle.std.proofs.Common.{◌≡◌, ℕ, zero, suc, ◌+◌, ◌≤◌, ◌<◌, min, List, [], ◌∷◌, ◌++◌, length, take, drop, get_or, map, Option, Some, None, Result, Ok, Err, refl, sym, ap, ◌∙◌, subst, arith, append_assoc, append-nil, inl, inr, ⊎_elim}
use Rattle.std.specs.Prelude.{codes, decimal, ◌⊎◌}
use Rattle.std.specs.Io.KnownBytes.{Appends}
use Rattle.std.proofs.lemmas.List.{at_drop_more, at_drop_all, take-append-le}
use Rattle.me_disk.specs.declared.stream.SinkFault.{SinkFault}
use Rattle.me_disk.specs.Causes.{CountsFaults, Rose}
use Rattle.me_disk.proofs.Runs.{rose_later, rose_sooner}
use Rattle.metaedit_top.specs.declared.batch_end.FileEnd.{FileEnd}
use Rattle.metaedit_top.specs.declared.batch_end.FileEnd.TheVariants as end
use Rattle.metaedit_top.specs.declared.batch_text.FileTexts.{FileTexts}
use Rattle.metaedit_top.specs.BatchText.{AreTextsOf, IsTextOf, Printed, end_line, fault_count, file_lines, last_line, name_text, texts_lines}
use Rattle.metaedit_top.specs.Words.{Text}

appends_more : (a b c : Option (List ℕ)) (x y : List ℕ) → Appends a b x → Appends b c y → Appends a c (x ++ y)
appends_more None b c x y p q = tt
appends_more (Some xs) None c x y p q = absurd p
appends_more (Some xs) (Some ys) None x y p q = absurd q
appends_more (Some xs) (Some ys) (Some zs) x y p q = q ∙ ap (λ (t : List ℕ). t ++ y) p ∙ append_assoc xs x y

take_behind : (x y : List ℕ) (n : ℕ) → take (length x + n) (x ++ y) ≡ x ++ take n y
take_behind [] y n = let none : length {A = ℕ} [] + n ≡ n = omega arith in ap (λ (k : ℕ). take k y) none
take_behind (b ∷ x) y n =
    let step : length (b ∷ x) + n ≡ suc (length x + n) = omega arith in
    ap (λ (k : ℕ). take k (b ∷ (x ++ y))) step ∙ ap (λ (t : List ℕ). b ∷ t) (take_behind x y n)

take_front : (x y : List ℕ) (n : ℕ) → (k : ℕ) × (take n x ≡ take k (x ++ y))
take_front [] y zero = (0, refl)
take_front [] y (suc n) = (0, refl)
take_front (b ∷ x) y zero = (0, refl)
take_front (b ∷ x) y (suc n) = let more = take_front x y n in (suc more.0, ap (λ (t : List ℕ). b ∷ t) more.1)

silent_on : (a b c : Option (List ℕ)) → (a ≡ None → b ≡ None) → (b ≡ None → c ≡ None) → a ≡ None → c ≡ None
silent_on a b c p q h = q (p h)

-- a text more
pub printed_more : (x y : List ℕ) (a b c : Option (List ℕ)) (f g h : ℕ) (u : Unit {0}) (r : Result Unit SinkFault) → Printed x a b f g (Ok u) → Printed y b c g h r → Printed (x ++ y) a c f h r
printed_more x y a b c f g h u (Ok v) p q = record {
  ok = appends_more a b c x y p.ok q.ok;
  err = tt;
  silent = silent_on a b c p.silent q.silent;
  cause = record { later = let s = p.cause.later in let t = q.cause.later in omega (arith, s, t); failed = tt };
}
printed_more x y a b c f g h u (Err e) p q = record {
  ok = tt;
  err = (length x + q.err.0, subst (Appends a c) (sym (take_behind x y q.err.0)) (appends_more a b c x (take q.err.0 y) p.ok q.err.1));
  silent = silent_on a b c p.silent q.silent;
  cause = record { later = let s = p.cause.later in let t = q.cause.later in omega (arith, s, t); failed = rose_sooner f g h p.cause.later q.cause.failed };
}

-- a text behind one that wasn't printed whole
pub printed_front : (x y : List ℕ) (a b : Option (List ℕ)) (f g : ℕ) (e : SinkFault) → Printed x a b f g (Err e) → Printed (x ++ y) a b f g (Err e)
printed_front x y a b f g e p =
    let k = take_front x y p.err.0 in
    record { ok = tt; err = (k.0, subst (Appends a b) k.1 p.err.1); silent = p.silent; cause = p.cause }

appends_none : (a : Option (List ℕ)) → Appends a a []
appends_none None = tt
appends_none (Some xs) = sym (append-nil xs)

-- no text
pub printed_none : (a : Option (List ℕ)) (f : ℕ) (u : Unit {0}) → Printed [] a a f f (Ok u)
printed_none a f u = record { ok = appends_none a; err = tt; silent = λ h. h; cause = record { later = omega arith; failed = tt } }

pub printed_as : (x y : List ℕ) (a b : Option (List ℕ)) (f g : ℕ) (r : Result Unit SinkFault) → x ≡ y → Printed x a b f g r → Printed y a b f g r
printed_as x y a b f g r same p = subst (λ (t : List ℕ). Printed t a b f g r) same p

-- ---- the lines of the files

pub texts_count : (ts : List FileTexts) (es : List FileEnd) → AreTextsOf ts es → length es ≡ length ts
texts_count [] [] h = refl
texts_count [] (e ∷ es) h = absurd h
texts_count (t ∷ ts) [] h = absurd h
texts_count (t ∷ ts) (e ∷ es) h = let more = texts_count ts es h.1 in omega arith

pub text_at : (ts : List FileTexts) (es : List FileEnd) (i : ℕ) (t : FileTexts) (e : FileEnd) → AreTextsOf ts es → i < length ts → IsTextOf (get_or ts i t) (get_or es i e)
text_at [] es i t e h low = absurd (omega arith)
text_at (x ∷ ts) [] i t e h low = absurd h
text_at (x ∷ ts) (y ∷ es) zero t e h low = h.0
text_at (x ∷ ts) (y ∷ es) (suc i) t e h low = text_at ts es i t e h.1 (omega arith)

-- a line more
pub lines_more : (ts : List FileTexts) (es : List FileEnd) (i : ℕ) (t : FileTexts) (e : FileEnd) → AreTextsOf ts es → i < length ts
    → texts_lines (drop i ts) (drop i es) ≡ ((get_or ts i t).name ++ end_line (get_or es i e)) ++ texts_lines (drop (i + 1) ts) (drop (i + 1) es)
lines_more [] es i t e h low = absurd (omega arith)
lines_more (x ∷ ts) [] i t e h low = absurd h
lines_more (x ∷ ts) (y ∷ es) zero t e h low = refl
lines_more (x ∷ ts) (y ∷ es) (suc i) t e h low =
    let step : suc i + 1 ≡ suc (i + 1) = omega arith in
    lines_more ts es i t e h.1 (omega arith)
    ∙ ap (λ (k : ℕ). ((get_or ts i t).name ++ end_line (get_or es i e)) ++ texts_lines (drop k (x ∷ ts)) (drop k (y ∷ es))) (sym step)

-- no line is left
pub lines_end : (ts : List FileTexts) (es : List FileEnd) (i : ℕ) → length ts ≤ i → texts_lines (drop i ts) (drop i es) ≡ []
lines_end [] es zero high = none es
  where
    none : (es : List FileEnd) → texts_lines [] es ≡ []
    none [] = refl
    none (e ∷ es) = refl
lines_end [] es (suc i) high = none (drop (suc i) es)
  where
    none : (es : List FileEnd) → texts_lines [] es ≡ []
    none [] = refl
    none (e ∷ es) = refl
lines_end (x ∷ ts) es zero high = absurd (omega arith)
lines_end (x ∷ ts) [] (suc i) high = rest (drop i ts)
  where
    rest : (us : List FileTexts) → texts_lines us [] ≡ []
    rest [] = refl
    rest (u ∷ us) = refl
lines_end (x ∷ ts) (e ∷ es) (suc i) high = lines_end ts es i (omega arith)

-- The lines of the first files are printed, and those that are left make the whole.
pub record PrintedSoFar (ts : List FileTexts) (es : List FileEnd) (i : ℕ) (a b : Option (List ℕ)) (f g : ℕ) : Type 0 where
  pub front : List ℕ
  pub whole : front ++ texts_lines (drop i ts) (drop i es) ≡ texts_lines ts es
  pub printed : Printed front a b f g (Ok tt)

pub printed_first : (ts : List FileTexts) (es : List FileEnd) (a : Option (List ℕ)) (f : ℕ) → PrintedSoFar ts es 0 a a f f
printed_first ts es a f = record { front = []; whole = refl; printed = printed_none a f tt }

module _ (ts : List FileTexts) (es : List FileEnd) (texts : AreTextsOf ts es) (i : ℕ) (low : i < length ts) (t : FileTexts) (e : FileEnd) (t_is : t ≡ get_or ts i t) (e_is : e ≡ get_or es i e)
    (a b : Option (List ℕ)) (f g : ℕ) (so : PrintedSoFar ts es i a b f g) where
  line_is : (get_or ts i t).name ++ end_line (get_or es i e) ≡ t.name ++ end_line e
  line_is = ap (λ (x : FileTexts). x.name ++ end_line (get_or es i e)) (sym t_is) ∙ ap (λ (y : FileEnd). t.name ++ end_line y) (sym e_is)

  joined : (so.front ++ (t.name ++ end_line e)) ++ texts_lines (drop (i + 1) ts) (drop (i + 1) es) ≡ texts_lines ts es
  unfolding line_is
  joined =
      append_assoc so.front (t.name ++ end_line e) (texts_lines (drop (i + 1) ts) (drop (i + 1) es))
      ∙ ap (λ (l : List ℕ). so.front ++ (l ++ texts_lines (drop (i + 1) ts) (drop (i + 1) es))) (sym line_is)
      ∙ ap (λ (ls : List ℕ). so.front ++ ls) (sym (lines_more ts es i t e texts low)) ∙ so.whole

  -- one more
  pub printed_next : (c : Option (List ℕ)) (h : ℕ) (u : Unit {0}) → Printed (t.name ++ end_line e) b c g h (Ok u) → PrintedSoFar ts es (i + 1) a c f h
  unfolding joined
  printed_next c h u p = record { front = so.front ++ (t.name ++ end_line e); whole = joined; printed = printed_more so.front (t.name ++ end_line e) a b c f g h tt (Ok u) so.printed p }

  -- one that wasn't printed whole
  pub printed_stops : (c : Option (List ℕ)) (h : ℕ) (x : SinkFault) → Printed (t.name ++ end_line e) b c g h (Err x) → Printed (texts_lines ts es) a c f h (Err x)
  unfolding joined
  printed_stops c h x p =
      printed_as ((so.front ++ (t.name ++ end_line e)) ++ texts_lines (drop (i + 1) ts) (drop (i + 1) es)) (texts_lines ts es) a c f h (Err x) joined
      (printed_front (so.front ++ (t.name ++ end_line e)) (texts_lines (drop (i + 1) ts) (drop (i + 1) es)) a c f h x (printed_more so.front (t.name ++ end_line e) a b c f g h tt (Err x) so.printed p))

-- no line is left
pub printed_all : (ts : List FileTexts) (es : List FileEnd) (i : ℕ) (a b : Option (List ℕ)) (f g : ℕ) → length ts ≤ i → PrintedSoFar ts es i a b f g → Printed (texts_lines ts es) a b f g (Ok tt)
printed_all ts es i a b f g end so =
    printed_as so.front (texts_lines ts es) a b f g (Ok tt)
    (sym (append-nil so.front) ∙ ap (λ (ls : List ℕ). so.front ++ ls) (sym (lines_end ts es i end)) ∙ so.whole) so.printed

-- the lines by the texts are the lines of the files
pub lines_of : (files : List Text) (ts : List FileTexts) (es : List FileEnd) → map (λ (t : FileTexts). t.name) ts ≡ map name_text files → AreTextsOf ts es → texts_lines ts es ≡ file_lines files es
lines_of [] [] [] names h = refl
lines_of [] [] (e ∷ es) names h = absurd h
lines_of [] (t ∷ ts) es names h = absurd cc
lines_of (f ∷ fs) [] es names h = absurd cc
lines_of (f ∷ fs) (t ∷ ts) [] names h = absurd h
lines_of (f ∷ fs) (t ∷ ts) (e ∷ es) names h =
    let first : t.name ≡ name_text f = head_same names in
    let more : map (λ (x : FileTexts). x.name) ts ≡ map name_text fs = tail_same names in
    ap (λ (n : List ℕ). (n ++ end_line e) ++ texts_lines ts es) first ∙ ap (λ (rest : List ℕ). (name_text f ++ end_line e) ++ rest) (lines_of fs ts es more h.1)
  where
    head_same : {x y : List ℕ} {xs ys : List (List ℕ)} → (x ∷ xs) ≡ (y ∷ ys) → x ≡ y
    head_same e = cc

    tail_same : {x y : List ℕ} {xs ys : List (List ℕ)} → (x ∷ xs) ≡ (y ∷ ys) → xs ≡ ys
    tail_same e = cc

-- ---- the pieces of a line

pub fault_line : (n : ℕ) → codes "refused 9 DepotFault " ++ (decimal n ++ codes "\n") ≡ end_line (end.DepotFault n)
fault_line n = refl

-- the end of a device that failed
pub fault_is : (e : FileEnd) (n : ℕ) → Some n ≡ fault_count e → e ≡ end.DepotFault n
fault_is (end.Done s) n h = absurd cc
fault_is end.NoFile n h = absurd cc
fault_is (end.JournalDamaged at) n h = absurd cc
fault_is (end.NotSupported w) n h = absurd cc
fault_is (end.RuleBroken b) n h = absurd cc
fault_is (end.TooLarge size limit) n h = absurd cc
fault_is (end.DepotFault k) n h = let same : k ≡ n = cc in ap (λ (m : ℕ). end.DepotFault m) same
fault_is end.Memory n h = absurd cc

pub last_pieces : (files done : ℕ) → (codes "files " ++ decimal files) ++ (codes " done " ++ (decimal done ++ codes "\n")) ≡ last_line files done
last_pieces files done = append_assoc (codes "files ") (decimal files) (codes " done " ++ (decimal done ++ codes "\n"))
