-- Bytes over which others are written.
use Rattle.std.proofs.Common.{◌≡◌, ℕ, zero, suc, ◌+◌, ◌-◌, ◌<◌, ◌≤◌, Bool, true, false, leb, List, [], ◌∷◌, ◌++◌, length, map, take, drop, get_or, refl, sym, ap, ◌∙◌, append_assoc, arith, inl, inr}
use Rattle.std.specs.Prelude.{◌⊎◌, ◌&&◌}
use Rattle.std.specs.List.{AllByRecursion}
use Rattle.std.proofs.lemmas.Bool.{le-leb, lt-leb, le-ltb, lt-ltb, cond-true, cond-false}
use Rattle.std.proofs.lemmas.List.{length-append, length-take, length-drop, drop-drop, take-take, get_or-append-add, take_at, drop_at, take-append-drop, take-append-le}
use Rattle.container_model.specs.Chunk.{Chunk, header_bytes, spell, spell_all, Header, ends, chunks, GivesBack, Reads}
use Rattle.container_model.specs.Written.{slice, Write, covers, written_byte, written, rows, map_rows}
use Rattle.container_model.proofs.Codec.{IsBytes, IsBytes-behind, chunks_joined, chunks_read, chunks_spelled}
use Rattle.container_model.proofs.Deep.{Moves, Alike, alike_len, stands_move}

-- ---- pieces of the bytes

pub length-written : (ws : List Write) (at : ℕ) (b : List ℕ) → length (written ws at b) ≡ length b
length-written ws at [] = refl
length-written ws at (x ∷ b) = ap suc (length-written ws (suc at) b)

pub written-append : (ws : List Write) (at : ℕ) (a b : List ℕ) → written ws at (a ++ b) ≡ written ws at a ++ written ws (at + length a) b
written-append ws at [] b = let e : at + 0 ≡ at = omega arith in rw e refl
written-append ws at (x ∷ a) b =
    let e : suc at + length a ≡ at + length (x ∷ a) = omega arith in
    ap (λ (k : List ℕ). written_byte ws at x ∷ k) (written-append ws (suc at) a b ∙ ap (λ (k : ℕ). written ws (suc at) a ++ written ws k b) e)

pub written-drop : (ws : List Write) (at n : ℕ) (b : List ℕ) → drop n (written ws at b) ≡ written ws (at + n) (drop n b)
written-drop ws at zero b = let e : at + 0 ≡ at = omega arith in rw e refl
written-drop ws at (suc n) [] = refl
written-drop ws at (suc n) (x ∷ b) = let e : suc at + n ≡ at + suc n = omega arith in written-drop ws (suc at) n b ∙ ap (λ (k : ℕ). written ws k (drop n b)) e

pub written-take : (ws : List Write) (at n : ℕ) (b : List ℕ) → take n (written ws at b) ≡ written ws at (take n b)
written-take ws at zero b = refl
written-take ws at (suc n) [] = refl
written-take ws at (suc n) (x ∷ b) = ap (λ (k : List ℕ). written_byte ws at x ∷ k) (written-take ws (suc at) n b)

pub written-slice : (ws : List Write) (at p n : ℕ) (b : List ℕ) → slice (written ws at b) p n ≡ written ws (at + p) (slice b p n)
written-slice ws at p n b = ap (take n) (written-drop ws at p b) ∙ written-take ws (at + p) n (drop p b)

-- ---- ranges that no write touches, and the range of a write

abbrev pub write_end : Write → ℕ
write_end w = w.at + length w.bytes

abbrev pub Misses : ℕ → ℕ → Write → Type 0
Misses at n w = (write_end w ≤ at) ⊎ (at + n ≤ w.at)

pub covers_not : (w : Write) (p : ℕ) → (write_end w ≤ p) ⊎ (p < w.at) → covers w p ≡ false
covers_not w p (inl h) = rw (le-ltb p (write_end w) h) (and_false (leb w.at p))
  where
    and_false : (b : Bool) → (b && false) ≡ false
    and_false true = refl
    and_false false = refl
covers_not w p (inr h) = rw (lt-leb w.at p h) refl

pub covers_it : (w : Write) (p : ℕ) → w.at ≤ p → p < write_end w → covers w p ≡ true
covers_it w p h g = rw (le-leb w.at p h, lt-ltb p (write_end w) g) refl

pub All-of : {X : Type 0} (P Q : X → Type 0) → ((x : X) → P x → Q x) → (xs : List X) → AllByRecursion P xs → AllByRecursion Q xs
All-of P Q f [] h = tt
All-of P Q f (x ∷ xs) h = (f x h.0, All-of P Q f xs h.1)

byte_clear : (ws : List Write) (p x : ℕ) → AllByRecursion (Misses p 1) ws → written_byte ws p x ≡ x
byte_clear [] p x h = refl
byte_clear (w ∷ ws) p x h = cond-false (covers w p) _ _ (covers_not w p (go h.0)) ∙ byte_clear ws p x h.1
  where
    go : Misses p 1 w → (write_end w ≤ p) ⊎ (p < w.at)
    go (inl g) = inl g
    go (inr g) = inr (omega arith)

misses_part : (at n k m : ℕ) (w : Write) → at ≤ k → k + m ≤ at + n → Misses at n w → Misses k m w
misses_part at n k m w h g (inl x) = inl (omega arith)
misses_part at n k m w h g (inr x) = inr (omega arith)

pub misses_in : (at n k m : ℕ) (ws : List Write) → at ≤ k → k + m ≤ at + n → AllByRecursion (Misses at n) ws → AllByRecursion (Misses k m) ws
misses_in at n k m ws h g a = All-of (Misses at n) (Misses k m) (λ w x. misses_part at n k m w h g x) ws a

pub written_clear : (ws : List Write) (at : ℕ) (b : List ℕ) → AllByRecursion (Misses at (length b)) ws → written ws at b ≡ b
written_clear ws at [] h = refl
written_clear ws at (x ∷ b) h =
    rw (byte_clear ws at x (misses_in at (suc (length b)) at 1 ws (omega arith) (omega arith) h), written_clear ws (suc at) b (misses_in at (suc (length b)) (suc at) (length b) ws (omega arith) (omega arith) h)) refl

-- a range that no write touches
pub slice_clear : (ws : List Write) (b : List ℕ) (p n : ℕ) → AllByRecursion (Misses p n) ws → slice (written ws 0 b) p n ≡ slice b p n
slice_clear ws b p n h =
    let z : 0 + p ≡ p = omega arith in
    written-slice ws 0 p n b ∙ ap (λ (k : ℕ). written ws k (slice b p n)) z ∙ written_clear ws p (slice b p n) (misses_in p n p (length (slice b p n)) ws (omega arith) (omega (arith, length-take n (drop p b))) h)

abbrev pub In : Write → List Write → Type 0
In w [] = ⊥
In w (v ∷ ws) = (v ≡ w) ⊎ In w ws

-- each other write misses this one
abbrev pub Alone : Write → Write → Type 0
Alone w v = (v ≡ w) ⊎ Misses w.at (length w.bytes) v

byte_own : (w : Write) (ws : List Write) (p x : ℕ) → In w ws → AllByRecursion (Alone w) ws → w.at ≤ p → p < write_end w → written_byte ws p x ≡ get_or w.bytes (p - w.at) 0
byte_own w [] p x i h low high = absurd i
byte_own w (v ∷ ws) p x i h low high = go i h.0 (λ j. byte_own w ws p x j h.1 low high)
  where
    mine : v ≡ w → written_byte (v ∷ ws) p x ≡ get_or w.bytes (p - w.at) 0
    mine e = ap (λ (u : Write). written_byte (u ∷ ws) p x) e ∙ cond-true (covers w p) _ _ (covers_it w p low high)

    past : Misses w.at (length w.bytes) v → (write_end v ≤ p) ⊎ (p < v.at)
    past (inl g) = inl (omega arith)
    past (inr g) = inr (omega arith)

    go : (v ≡ w) ⊎ In w ws → Alone w v → (In w ws → written_byte ws p x ≡ get_or w.bytes (p - w.at) 0) → written_byte (v ∷ ws) p x ≡ get_or w.bytes (p - w.at) 0
    go j (inl e) again = mine e
    go (inl e) (inr m) again = mine e
    go (inr j) (inr m) again = cond-false (covers v p) _ _ (covers_not v p (past m)) ∙ again j

own_from : (w : Write) (ws : List Write) (done b rest : List ℕ) → In w ws → AllByRecursion (Alone w) ws → w.bytes ≡ done ++ rest → length b ≡ length rest → written ws (w.at + length done) b ≡ rest
own_from w ws done [] [] i h e l = refl
own_from w ws done [] (y ∷ rest) i h e l = absurd (omega arith)
own_from w ws done (x ∷ b) [] i h e l = absurd (omega arith)
own_from w ws done (x ∷ b) (y ∷ rest) i h e l =
    let long : length w.bytes ≡ length done + suc (length rest) = omega (arith, ap length e, length-append done (y ∷ rest)) in
    let back : (w.at + length done) - w.at ≡ length done + 0 = omega arith in
    let one : written_byte ws (w.at + length done) x ≡ y = byte_own w ws (w.at + length done) x i h (omega arith) (omega (arith, long)) ∙ ap (λ (k : ℕ). get_or w.bytes k 0) back ∙ ap (λ (k : List ℕ). get_or k (length done + 0) 0) e ∙ get_or-append-add done (y ∷ rest) 0 0 in
    let next : suc (w.at + length done) ≡ w.at + length (done ++ y ∷ []) = omega (arith, length-append done (y ∷ [])) in
    let again : written ws (w.at + length (done ++ y ∷ [])) b ≡ rest = own_from w ws (done ++ y ∷ []) b rest i h (e ∙ sym (append_assoc done (y ∷ []) rest)) (omega arith) in
    rw (one, next, again) refl

pub written_own : (w : Write) (ws : List Write) (b : List ℕ) → In w ws → AllByRecursion (Alone w) ws → length b ≡ length w.bytes → written ws w.at b ≡ w.bytes
written_own w ws b i h l = let e : w.at + 0 ≡ w.at = omega arith in ap (λ (k : ℕ). written ws k b) (sym e) ∙ own_from w ws [] b w.bytes i h refl l

-- the range of a write that no other touches
pub slice_own : (w : Write) (ws : List Write) (b : List ℕ) → In w ws → AllByRecursion (Alone w) ws → write_end w ≤ length b → slice (written ws 0 b) w.at (length w.bytes) ≡ w.bytes
slice_own w ws b i h l =
    let z : 0 + w.at ≡ w.at = omega arith in
    written-slice ws 0 w.at (length w.bytes) b ∙ ap (λ (k : ℕ). written ws k (slice b w.at (length w.bytes))) z ∙ written_own w ws (slice b w.at (length w.bytes)) i h (omega (arith, length-take (length w.bytes) (drop w.at b), length-drop w.at b))

-- ---- slices

pub length-slice : (b : List ℕ) (p n : ℕ) → p + n ≤ length b → length (slice b p n) ≡ n
length-slice b p n h = omega (arith, length-take n (drop p b), length-drop p b)

pub slice_slice : (b : List ℕ) (p n i k : ℕ) → i + k ≤ n → slice (slice b p n) i k ≡ slice b (p + i) k
slice_slice b p n i k h = rw (drop_take i n (drop p b)) (take-take k (n - i) (drop i (drop p b)) (omega arith) ∙ ap (take k) (drop-drop i p b))
  where
    take_none : (n : ℕ) → take {A = ℕ} n [] ≡ []
    take_none zero = refl
    take_none (suc n) = refl

    drop_take : (i n : ℕ) (x : List ℕ) → drop i (take n x) ≡ take (n - i) (drop i x)
    drop_take zero n x = let e : n - 0 ≡ n = omega arith in rw e refl
    drop_take (suc i) zero x = let e : 0 - suc i ≡ 0 = omega arith in rw e refl
    drop_take (suc i) (suc n) [] = sym (take_none (suc n - suc i))
    drop_take (suc i) (suc n) (y ∷ x) = let e : suc n - suc i ≡ n - i = omega arith in rw e (drop_take i n x)

pub slice_front : (a b : List ℕ) (j n : ℕ) → j + n ≤ length a → slice (a ++ b) j n ≡ slice a j n
slice_front a b j n h =
    let e : drop j (a ++ b) ≡ drop j a ++ b = Rattle.std.proofs.lemmas.List.drop-append-le j a b (omega arith) in
    ap (take n) e ∙ take-append-le n (drop j a) b (omega (arith, length-drop j a))

-- ---- rows

-- so many whole rows are there
abbrev pub Holds : ℕ → ℕ → List ℕ → Type 0
Holds k zero b = Unit {0}
Holds k (suc n) b = (k ≤ length b) × Holds k n (drop k b)

abbrev pub KeepsLength : (List ℕ → List ℕ) → Type 0
KeepsLength g = (r : List ℕ) → length (g r) ≡ length r

pub length-map_rows : (k : ℕ) (g : List ℕ → List ℕ) (n : ℕ) (b : List ℕ) → KeepsLength g → length (map_rows k g n b) ≡ length b
length-map_rows k g zero b h = refl
length-map_rows k g (suc n) b h =
    omega (arith, length-append (g (take k b)) (map_rows k g n (drop k b)), h (take k b), length-map_rows k g n (drop k b) h, length-take k b, length-drop k b)

-- the rows of a changed table are the changed rows
pub rows_map : (k : ℕ) (g : List ℕ → List ℕ) (n : ℕ) (b : List ℕ) → KeepsLength g → Holds k n b → rows k n (map_rows k g n b) ≡ map g (rows k n b)
rows_map k g zero b h o = refl
rows_map k g (suc n) b h o =
    let len : length (g (take k b)) ≡ k = omega (arith, h (take k b), length-take k b, o.0) in
    rw (take_at (g (take k b)) (map_rows k g n (drop k b)) k len, drop_at (g (take k b)) (map_rows k g n (drop k b)) k len, rows_map k g n (drop k b) h o.1) refl

-- ---- chunks

abbrev pub head_length : Chunk → ℕ
head_length c = length (header_bytes c.form c.id (length c.body))

abbrev pub renew : List Write → ℕ → Chunk → Chunk
renew ws at c = record c { body = written ws (at + head_length c) c.body }

abbrev pub renewed : List Write → ℕ → List Chunk → List Chunk
renewed ws at [] = []
renewed ws at (c ∷ cs) = renew ws at c ∷ renewed ws (at + length (spell c)) cs

-- a write touches no header, no pad and no rest
abbrev pub Avoids : ℕ → List Chunk → List ℕ → Write → Type 0
Avoids at [] left w = Misses at (length left) w
Avoids at (c ∷ cs) left w = Misses at (head_length c) w × Misses (at + head_length c + length c.body) (length c.pad) w × Avoids (at + length (spell c)) cs left w

pub renew_alike : (ws : List Write) (at : ℕ) (c : Chunk) → Alike c (renew ws at c)
renew_alike ws at c = record { form_is = refl; id_is = refl; len_is = length-written ws (at + head_length c) c.body; pad_is = refl }

pub renewed_length : (ws : List Write) (at : ℕ) (cs : List Chunk) → length (spell_all (renewed ws at cs)) ≡ length (spell_all cs)
renewed_length ws at [] = refl
renewed_length ws at (c ∷ cs) =
    let next = at + length (spell c) in
    omega (arith, length-append (spell (renew ws at c)) (spell_all (renewed ws next cs)), length-append (spell c) (spell_all cs), alike_len c (renew ws at c) (renew_alike ws at c), renewed_length ws next cs)

-- what is written avoids the headers, so it is written into bodies
pub written_chunks : (ws : List Write) (at : ℕ) (cs : List Chunk) (left : List ℕ) → AllByRecursion (Avoids at cs left) ws → written ws at (spell_all cs ++ left) ≡ spell_all (renewed ws at cs) ++ left
written_chunks ws at [] left h = written_clear ws at left h
written_chunks ws at (c ∷ cs) left h =
    let head = header_bytes c.form c.id (length c.body) in
    let q = at + length head in
    let next = at + length (spell c) in
    let rest = spell_all cs ++ left in
    let body = written ws q c.body in
    let split : (spell c ++ spell_all cs) ++ left ≡ head ++ (c.body ++ (c.pad ++ rest)) = simp append_assoc in
    let len : (q + length c.body) + length c.pad ≡ next = omega (arith, length-append head (c.body ++ c.pad), length-append c.body c.pad) in
    let one : written ws at head ≡ head = written_clear ws at head (All-of _ (Misses at (length head)) (λ w x. x.0) ws h) in
    let two : written ws (q + length c.body) c.pad ≡ c.pad = written_clear ws (q + length c.body) c.pad (All-of _ (Misses (q + length c.body) (length c.pad)) (λ w x. x.1) ws h) in
    let three : written ws ((q + length c.body) + length c.pad) rest ≡ spell_all (renewed ws next cs) ++ left = rw len (written_chunks ws next cs left (All-of _ (Avoids next cs left) (λ w x. x.2) ws h)) in
    let same : header_bytes c.form c.id (length body) ≡ head = ap (header_bytes c.form c.id) (length-written ws q c.body) in
    let new : spell (renew ws at c) ≡ head ++ (body ++ c.pad) = ap (λ (x : List ℕ). x ++ (body ++ c.pad)) same in
    ap (written ws at) split ∙ written-append ws at head (c.body ++ (c.pad ++ rest))
    ∙ rw (one, written-append ws q c.body (c.pad ++ rest), written-append ws (q + length c.body) c.pad rest, two, three) (sym (rw new (simp append_assoc)))

-- chunks with other bodies of the same lengths are read in the same way
module _ {S : Type 0} (front : S → List ℕ → Header S) (good : GivesBack front) (moves : Moves front) where
  reads_renewed : (ws : List Write) (at : ℕ) (s : S) (cs : List Chunk) (left : List ℕ) → IsBytes (spell_all cs ++ left) → Reads front s cs left → Reads front s (renewed ws at cs) left
  reads_renewed ws at s [] left bytes r = r
  reads_renewed ws at s (c ∷ cs) left bytes r =
      let next = at + length (spell c) in
      let split : (spell c ++ spell_all cs) ++ left ≡ spell c ++ (spell_all cs ++ left) = append_assoc (spell c) (spell_all cs) left in
      let b : IsBytes (spell c ++ (spell_all cs ++ left)) = rw split at bytes in
      let len : length (spell_all (renewed ws next cs) ++ left) ≡ length (spell_all cs ++ left) = omega (arith, length-append (spell_all (renewed ws next cs)) left, length-append (spell_all cs) left, renewed_length ws next cs) in
      (r.0, stands_move front moves s r.0 c (renew ws at c) (spell_all cs ++ left) (spell_all (renewed ws next cs) ++ left) b (renew_alike ws at c) len r.1, reads_renewed ws next r.0 cs left (IsBytes-behind (spell c) (spell_all cs ++ left) b) r.2)

  -- what is read of bytes that are written over, where headers, pads and the rest are left alone
  pub chunks_written : (ws : List Write) (at : ℕ) (s : S) (b : List ℕ) → IsBytes b → (chunks front s b).stop ≡ ends → AllByRecursion (Avoids at (chunks front s b).chunks (chunks front s b).left) ws
      → chunks front s (written ws at b) ≡ record { chunks = renewed ws at (chunks front s b).chunks; stop = ends; left = (chunks front s b).left }
  chunks_written ws at s b bytes whole h =
      let r = chunks front s b in
      let old : spell_all r.chunks ++ r.left ≡ b = chunks_joined front good s b bytes in
      let read = chunks_read front good s b bytes whole in
      let again = reads_renewed ws at s r.chunks r.left (rw old bytes) read in
      ap (λ (x : List ℕ). chunks front s (written ws at x)) (sym old) ∙ ap (chunks front s) (written_chunks ws at r.chunks r.left h) ∙ chunks_spelled front s (renewed ws at r.chunks) r.left again
