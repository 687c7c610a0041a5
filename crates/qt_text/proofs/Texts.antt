-- Texts, one after the other.
use Rattle.std.proofs.Common.{◌≡◌, ◌≢◌, ℕ, zero, suc, ◌+◌, ◌^◌, ◌<◌, ◌≤◌, Bool, true, false, ltb, List, [], ◌∷◌, ◌++◌, length, take, drop, get_or, refl, sym, ap, ◌∙◌, append_assoc, arith, Option, Some, None, length-drop}
use Rattle.std.specs.Prelude.{if◌then◌else◌}
use Rattle.std.specs.Int.{w16, from_be_bytes, to_be_bytes}
use Rattle.std.specs.List.{AllByRecursion, flat_map}
use Rattle.std.proofs.lemmas.Bool.{ltb-false}
use Rattle.std.proofs.lemmas.List.{append-nil, at_drop_all, at_drop_more, drop_all, drop-drop, length-take, take-append-drop}
use Rattle.std.proofs.lemmas.Nat.{be_bytes_2}
use Rattle.me_bytes.specs.Bytes.{IsBytes}
use Rattle.container_model.proofs.Codec.{IsBytes-drop}
use Rattle.container_model.proofs.Fronts.{IsBytes-take}
use Rattle.part_tree.specs.declared.field.Value.{Value}
use Rattle.qt_text.specs.User.{TextFits, found, text_bytes, text_language, text_size, text_then, texts, texts_in, with_text}
use Rattle.qt_text.specs.Texts.{text_len_of}

-- the text at the front
abbrev pub text_of : List ℕ → Value
text_of b = record { lang = text_language b; raw = take (text_size b) (drop 4 b) }

-- the bytes behind it
abbrev pub text_behind : List ℕ → List ℕ
text_behind b = drop (text_size b) (drop 4 b)

-- all texts of some bytes, or none where these aren't texts
abbrev pub all_texts : List ℕ → Option (List Value)
all_texts b = texts_in (length b) b

-- the count of turns does not matter where it is enough
enough : (j k : ℕ) (b : List ℕ) → length b ≤ j → length b ≤ k → texts_in j b ≡ texts_in k b
enough zero zero [] lj lk = refl
enough zero (suc k) [] lj lk = refl
enough (suc j) zero [] lj lk = refl
enough (suc j) (suc k) [] lj lk = refl
enough zero k (x ∷ b) lj lk = absurd (omega arith)
enough (suc j) zero (x ∷ b) lj lk = absurd (omega arith)
enough (suc j) (suc k) (x ∷ b) lj lk =
    let less : length (text_behind (x ∷ b)) ≤ length b = omega (arith, length-drop (text_size (x ∷ b)) (drop 4 (x ∷ b)), length-drop 4 (x ∷ b)) in
    go (ltb (length (x ∷ b)) (4 + text_size (x ∷ b))) (enough j k (text_behind (x ∷ b)) (omega (arith, less)) (omega (arith, less)))
  where
    go : (t : Bool) → texts_in j (text_behind (x ∷ b)) ≡ texts_in k (text_behind (x ∷ b)) → text_then (texts_in j) (x ∷ b) t ≡ text_then (texts_in k) (x ∷ b) t
    go true again = refl
    go false again = ap (with_text (text_of (x ∷ b))) again

-- a text that is there, and the others
pub text_more : (b : List ℕ) → 0 < length b → ltb (length b) (4 + text_size b) ≡ false → all_texts b ≡ with_text (text_of b) (all_texts (text_behind b))
text_more [] some e = absurd (omega arith)
text_more (x ∷ b) some e =
    let less : length (text_behind (x ∷ b)) ≤ length b = omega (arith, length-drop (text_size (x ∷ b)) (drop 4 (x ∷ b)), length-drop 4 (x ∷ b)) in
    ap (text_then (texts_in (length b)) (x ∷ b)) e ∙ ap (with_text (text_of (x ∷ b))) (enough (length b) (length (text_behind (x ∷ b))) (text_behind (x ∷ b)) less (omega arith))

-- one that passes the end
pub text_cut : (b : List ℕ) → 0 < length b → ltb (length b) (4 + text_size b) ≡ true → all_texts b ≡ None
text_cut [] some e = absurd (omega arith)
text_cut (x ∷ b) some e = ap (text_then (texts_in (length b)) (x ∷ b)) e

-- ---- those that were read, and those that are left

abbrev pub texts_with : List Value → Option (List Value) → Option (List Value)
texts_with ts None = None
texts_with ts (Some us) = Some (ts ++ us)

one_more : (ts : List Value) (t : Value) (o : Option (List Value)) → texts_with (ts ++ t ∷ []) o ≡ texts_with ts (with_text t o)
one_more ts t None = refl
one_more ts t (Some us) = ap Some (append_assoc ts (t ∷ []) us)

-- what the length of the text at the front says
len_cut : (t : Bool) (n : ℕ) → (if t then None else Some n) ≡ None → t ≡ true
len_cut true n e = refl
len_cut false n e = absurd cc

len_whole : (t : Bool) (n m : ℕ) → (if t then None else Some n) ≡ Some m → (t ≡ false) × (m ≡ n)
len_whole true n m e = absurd cc
len_whole false n m e = (refl, cc)

pub texts_step : (body : List ℕ) (at len : ℕ) (ts new : List Value) (t : Value) → at < length body → Some len ≡ text_len_of (drop at body)
    → t ≡ record { lang = text_language (drop at body); raw = take len (drop 4 (drop at body)) } → new ≡ ts ++ t ∷ []
    → texts_with ts (all_texts (drop at body)) ≡ all_texts body → texts_with new (all_texts (drop (at + (4 + len)) body)) ≡ all_texts body
texts_step body at len ts new t room is text put left =
    let b = drop at body in
    let whole = len_whole (ltb (length b) (4 + text_size b)) (text_size b) len (sym is) in
    let same : t ≡ text_of b = text ∙ ap (λ (n : ℕ). record { lang = text_language b; raw = take n (drop 4 b) }) whole.1 in
    let next : drop (at + (4 + len)) body ≡ text_behind b =
    sym (ap (λ (n : ℕ). drop n (drop 4 b)) (sym whole.1) ∙ ap (drop len) (drop-drop 4 at body) ∙ drop-drop len (at + 4) body ∙ ap (λ (n : ℕ). drop n body) (omega arith))
    in
    ap (λ (x : List ℕ). texts_with new (all_texts x)) next
    ∙ ap (λ (xs : List Value). texts_with xs (all_texts (text_behind b))) (put ∙ ap (λ (u : Value). ts ++ u ∷ []) same)
    ∙ one_more ts (text_of b) (all_texts (text_behind b))
    ∙ ap (texts_with ts) (sym (text_more b (omega (arith, length-drop at body)) whole.0)) ∙ left

pub texts_none : (body : List ℕ) (at : ℕ) (ts : List Value) → at < length body → None ≡ text_len_of (drop at body)
    → texts_with ts (all_texts (drop at body)) ≡ all_texts body → texts body ≡ []
texts_none body at ts room is left =
    let b = drop at body in
    let cut = text_cut b (omega (arith, length-drop at body)) (len_cut (ltb (length b) (4 + text_size b)) (text_size b) (sym is)) in
    ap found (sym left ∙ ap (texts_with ts) cut)

pub texts_end : (body : List ℕ) (at : ℕ) (ts : List Value) → length body ≤ at → texts_with ts (all_texts (drop at body)) ≡ all_texts body → ts ≡ texts body
texts_end body at ts past left =
    let b : drop at body ≡ [] = drop_all at body past in
    sym (append-nil ts) ∙ ap found (sym (ap (λ (x : List ℕ). texts_with ts (all_texts x)) b) ∙ left)

-- ---- texts are spelled as they stand

two_back : (b : List ℕ) → IsBytes b → 2 ≤ length b → to_be_bytes w16 (from_be_bytes w16 (take 2 b)) ≡ take 2 b
two_back b h le = be_bytes_2 (take 2 b) _ (omega (arith, length-take 2 b)) (IsBytes-take 2 b h) refl

text_back : (b : List ℕ) → IsBytes b → 4 + text_size b ≤ length b → text_bytes (text_of b) ++ text_behind b ≡ b
text_back b h le =
    let n = text_size b in
    let len : length (take n (drop 4 b)) ≡ n = omega (arith, length-take n (drop 4 b), length-drop 4 b) in
    let first : to_be_bytes w16 (length (take n (drop 4 b))) ≡ take 2 b = ap (to_be_bytes w16) len ∙ two_back b h (omega arith) in
    let second : to_be_bytes w16 (text_language b) ≡ take 2 (drop 2 b) = two_back (drop 2 b) (IsBytes-drop 2 b h) (omega (arith, length-drop 2 b)) in
    let raw = take n (drop 4 b) in
    append_assoc (to_be_bytes w16 (length raw)) (to_be_bytes w16 (text_language b) ++ raw) (text_behind b)
    ∙ ap (λ (x : List ℕ). to_be_bytes w16 (length raw) ++ x) (append_assoc (to_be_bytes w16 (text_language b)) raw (text_behind b) ∙ ap (λ (x : List ℕ). to_be_bytes w16 (text_language b) ++ x) (take-append-drop n (drop 4 b)))
    ∙ ap (λ (x : List ℕ). x ++ (to_be_bytes w16 (text_language b) ++ drop 4 b)) first
    ∙ ap (λ (x : List ℕ). take 2 b ++ (x ++ drop 4 b)) second
    ∙ ap (λ (x : List ℕ). take 2 b ++ (take 2 (drop 2 b) ++ x)) (sym (drop-drop 2 2 b))
    ∙ ap (λ (x : List ℕ). take 2 b ++ x) (take-append-drop 2 (drop 2 b)) ∙ take-append-drop 2 b

some_of : (t : Value) (o : Option (List Value)) (ts : List Value) → with_text t o ≡ Some ts → (us : List Value) × (o ≡ Some us) × (ts ≡ t ∷ us)
some_of t None ts e = absurd cc
some_of t (Some us) ts e = (us, refl, cc)

spelled_in : (k : ℕ) (b : List ℕ) (ts : List Value) → IsBytes b → texts_in k b ≡ Some ts → flat_map text_bytes ts ≡ b
spelled_in zero [] ts h e = let none : ts ≡ [] = cc in rw none refl
spelled_in (suc k) [] ts h e = let none : ts ≡ [] = cc in rw none refl
spelled_in zero (x ∷ b) ts h e = absurd cc
spelled_in (suc k) (x ∷ b) ts h e =
    go (ltb (length (x ∷ b)) (4 + text_size (x ∷ b))) refl e
    (λ us f. spelled_in k (text_behind (x ∷ b)) us (IsBytes-drop (text_size (x ∷ b)) (drop 4 (x ∷ b)) (IsBytes-drop 4 (x ∷ b) h)) f)
  where
    go : (t : Bool) → ltb (length (x ∷ b)) (4 + text_size (x ∷ b)) ≡ t → text_then (texts_in k) (x ∷ b) t ≡ Some ts
        → ((us : List Value) → texts_in k (text_behind (x ∷ b)) ≡ Some us → flat_map text_bytes us ≡ text_behind (x ∷ b)) → flat_map text_bytes ts ≡ x ∷ b
    go true lt f deeper = absurd cc
    go false lt f deeper =
        let c = x ∷ b in
        let more = some_of (text_of c) (texts_in k (text_behind c)) ts f in
        let again = deeper more.0 more.1 in
        ap (flat_map text_bytes) more.2 ∙ ap (λ (x : List ℕ). text_bytes (text_of c) ++ x) again ∙ text_back c h (ltb-false (length c) (4 + text_size c) lt)

pub spelled_texts : (body : List ℕ) → IsBytes body → texts body ≢ [] → flat_map text_bytes (texts body) ≡ body
spelled_texts body h some = go (all_texts body) refl
  where
    go : (o : Option (List Value)) → all_texts body ≡ o → flat_map text_bytes (texts body) ≡ body
    go None e = absurd (some (ap found e))
    go (Some ts) e = ap (λ (x : Option (List Value)). flat_map text_bytes (found x)) e ∙ spelled_in (length body) body ts h e

-- ---- texts are spelled one after the other

abbrev pub bytes_from : ℕ → List Value → List ℕ
bytes_from k ts = flat_map text_bytes (drop k ts)

pub fits_at : (ts : List Value) (k : ℕ) (d : Value) → AllByRecursion TextFits ts → k < length ts → length (get_or ts k d).raw < 2 ^ 16
fits_at [] k d h lt = absurd (omega arith)
fits_at (t ∷ ts) zero d h lt = h.0.1
fits_at (t ∷ ts) (suc k) d h lt = fits_at ts k d h.1 (omega arith)

pub raw_fits : (ts : List Value) (k : ℕ) (t : Value) → AllByRecursion TextFits ts → t ≡ get_or ts k t → k < length ts → length t.raw < 2 ^ 16
raw_fits ts k t h is lt = let n : length t.raw ≡ length (get_or ts k t).raw = ap (λ (u : Value). length u.raw) is in omega (arith, n, fits_at ts k t h lt)

pub spelled_next : (ts : List Value) (k : ℕ) (t : Value) (body new whole : List ℕ) → t ≡ get_or ts k t → k < length ts → new ≡ body ++ text_bytes t
    → body ++ bytes_from k ts ≡ whole → new ++ bytes_from (k + 1) ts ≡ whole
spelled_next ts k t body new whole is lt put so_far =
    let next : bytes_from k ts ≡ text_bytes (get_or ts k t) ++ bytes_from (k + 1) ts = at_drop_more (λ (us : List Value). flat_map text_bytes us) ts k t lt in
    ap (λ (b : List ℕ). b ++ bytes_from (k + 1) ts) put
    ∙ append_assoc body (text_bytes t) (bytes_from (k + 1) ts)
    ∙ ap (λ (u : Value). body ++ (text_bytes u ++ bytes_from (k + 1) ts)) is
    ∙ ap (λ (b : List ℕ). body ++ b) (sym next) ∙ so_far

pub spelled_end : (ts : List Value) (k : ℕ) (body whole : List ℕ) → length ts ≤ k → body ++ bytes_from k ts ≡ whole → body ≡ whole
spelled_end ts k body whole past so_far =
    sym (append-nil body) ∙ ap (λ (b : List ℕ). body ++ b) (sym (at_drop_all (λ (us : List Value). flat_map text_bytes us) ts k past)) ∙ so_far
