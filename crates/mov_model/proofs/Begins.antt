-- The new file is a movie by its first bytes.
use Rattle.std.proofs.Common.{cond, Some, None, subst, ◌≡◌, ℕ, ◌+◌, ◌^◌, ◌≤◌, ◌<◌, Bool, true, false, List, [], ◌++◌, length, take, drop, refl, sym, ap, ◌∙◌, append_assoc, arith, inl, inr}
use Rattle.std.specs.Prelude.{◌&&◌, ◌⊎◌, codes}
use Rattle.std.specs.Str.{bytes_eq}
use Rattle.std.specs.Int.{w32, w64, to_be_bytes, from_be_bytes}
use Rattle.std.proofs.lemmas.Bool.{cases_lt}
use Rattle.std.proofs.lemmas.List.{length-append, take_at, drop_at, drop-append-le, take-append-le, length-drop}
use Rattle.std.proofs.lemmas.Nat.{from_be_bytes-to_be_bytes_4}
use Rattle.std.specs.List.{list_any}
use Rattle.part_tree.specs.Kinds.{is_form_of, is_movie, movie_types}
use Rattle.part_tree.specs.declared.names.Kind.TheVariants.{Wave, Rf64, Bw64, Avi, Mov}
use Rattle.container_model.specs.Chunk.{Form, riff, wide, short, long, to_end, header_bytes, Chunk, spell}
use Rattle.container_model.specs.Sizes.{top}
use Rattle.container_model.proofs.Items.{same_true}
use Rattle.container_model.proofs.Read.{Atom, AtomForm}
use Rattle.mov_model.specs.Begins.{is_mov, begins_movie}

-- the first four bytes of an atom
abbrev word : Form → ℕ → List ℕ
word riff n = []
word wide n = []
word short n = to_be_bytes w32 (n + 8)
word long n = to_be_bytes w32 1
word to_end n = to_be_bytes w32 0

first_word : (c : Chunk) (more : List ℕ) → AtomForm c.form → take 4 (spell c ++ more) ≡ word c.form (length c.body)
first_word c more (inl e) =
    let head = to_be_bytes w32 (length c.body + 8) in
    let split : spell c ++ more ≡ head ++ (c.id ++ (c.body ++ (c.pad ++ more))) = rw e (simp append_assoc) in
    ap (take 4) split ∙ take_at head (c.id ++ (c.body ++ (c.pad ++ more))) 4 refl ∙ rw e refl
first_word c more (inr (inl e)) =
    let head = to_be_bytes w32 1 in
    let size = to_be_bytes w64 (length c.body + 16) in
    let split : spell c ++ more ≡ head ++ (c.id ++ (size ++ (c.body ++ (c.pad ++ more)))) = rw e (simp append_assoc) in
    ap (take 4) split ∙ take_at head (c.id ++ (size ++ (c.body ++ (c.pad ++ more)))) 4 refl ∙ rw e refl
first_word c more (inr (inr e)) =
    let head = to_be_bytes w32 0 in
    let split : spell c ++ more ≡ head ++ (c.id ++ (c.body ++ (c.pad ++ more))) = rw e (simp append_assoc) in
    ap (take 4) split ∙ take_at head (c.id ++ (c.body ++ (c.pad ++ more))) 4 refl ∙ rw e refl

first_type : (c : Chunk) (more : List ℕ) → AtomForm c.form → length c.id ≡ 4 → take 4 (drop 4 (spell c ++ more)) ≡ c.id
first_type c more (inl e) l =
    let head = to_be_bytes w32 (length c.body + 8) in
    let rest = c.body ++ (c.pad ++ more) in
    let split : spell c ++ more ≡ head ++ (c.id ++ rest) = rw e (simp append_assoc) in
    ap (λ (b : List ℕ). take 4 (drop 4 b)) split ∙ ap (take 4) (drop_at head (c.id ++ rest) 4 refl) ∙ take_at c.id rest 4 l
first_type c more (inr (inl e)) l =
    let head = to_be_bytes w32 1 in
    let rest = to_be_bytes w64 (length c.body + 16) ++ (c.body ++ (c.pad ++ more)) in
    let split : spell c ++ more ≡ head ++ (c.id ++ rest) = rw e (simp append_assoc) in
    ap (λ (b : List ℕ). take 4 (drop 4 b)) split ∙ ap (take 4) (drop_at head (c.id ++ rest) 4 refl) ∙ take_at c.id rest 4 l
first_type c more (inr (inr e)) l =
    let head = to_be_bytes w32 0 in
    let rest = c.body ++ (c.pad ++ more) in
    let split : spell c ++ more ≡ head ++ (c.id ++ rest) = rw e (simp append_assoc) in
    ap (λ (b : List ℕ). take 4 (drop 4 b)) split ∙ ap (take 4) (drop_at head (c.id ++ rest) 4 refl) ∙ take_at c.id rest 4 l

-- a small number spells no form's word
other_word : (n k : ℕ) (w : List ℕ) → n ≤ 2 ^ 28 → from_be_bytes w32 w ≡ k → 2 ^ 28 < k → bytes_eq (to_be_bytes w32 n) w ≡ false
other_word n k w le e lt = go (bytes_eq (to_be_bytes w32 n) w) refl
  where
    go : (t : Bool) → bytes_eq (to_be_bytes w32 n) w ≡ t → t ≡ false
    go true h =
        let same : to_be_bytes w32 n ≡ w = same_true (to_be_bytes w32 n) w h in
        let number : n ≡ k = sym (from_be_bytes-to_be_bytes_4 n (omega arith)) ∙ ap (from_be_bytes w32) same ∙ e in
        absurd (omega arith)
    go false h = refl

-- a word that begins no form
abbrev NoForm : List ℕ → Type 0
NoForm w = (bytes_eq w (codes "RIFF") ≡ false) × (bytes_eq w (codes "RF64") ≡ false) × (bytes_eq w (codes "BW64") ≡ false)

no_form : (n : ℕ) → n ≤ 2 ^ 28 → NoForm (to_be_bytes w32 n)
no_form n le = (other_word n 1380533830 (codes "RIFF") le refl (omega arith), other_word n 1380333108 (codes "RF64") le refl (omega arith), other_word n 1113011764 (codes "BW64") le refl (omega arith))

small_word : (form : Form) (n : ℕ) → AtomForm form → (form ≡ short → n + 8 ≤ 2 ^ 28) → NoForm (word form n)
small_word form n (inl e) le = subst (λ (g : Form). NoForm (word g n)) (sym e) (no_form (n + 8) (le e))
small_word form n (inr (inl e)) le = subst (λ (g : Form). NoForm (word g n)) (sym e) (no_form 1 (omega arith))
small_word form n (inr (inr e)) le = subst (λ (g : Form). NoForm (word g n)) (sym e) (no_form 0 (omega arith))

-- no form of RIFF, RF64 or BW64 that is another kind
record IsOther (b : List ℕ) : Type 0 where
  wave : is_form_of (codes "RIFF") (codes "WAVE") b ≡ false
  rf64 : is_form_of (codes "RF64") (codes "WAVE") b ≡ false
  bw64 : is_form_of (codes "BW64") (codes "WAVE") b ≡ false
  avi : is_form_of (codes "RIFF") (codes "AVI ") b ≡ false

movie_by : (b : List ℕ) → IsOther b → is_movie b ≡ true → begins_movie b ≡ true
movie_by b f t = rw (f.wave, f.rf64, f.bw64, f.avi, t) refl

movie_parts : (b : List ℕ) → begins_movie b ≡ true → IsOther b × (is_movie b ≡ true)
movie_parts b h = go (is_form_of (codes "RIFF") (codes "WAVE") b) (is_form_of (codes "RF64") (codes "WAVE") b) (is_form_of (codes "BW64") (codes "WAVE") b) (is_form_of (codes "RIFF") (codes "AVI ") b) (is_movie b) refl refl refl refl refl h
  where
    go : (t u x v w : Bool) → is_form_of (codes "RIFF") (codes "WAVE") b ≡ t → is_form_of (codes "RF64") (codes "WAVE") b ≡ u → is_form_of (codes "BW64") (codes "WAVE") b ≡ x → is_form_of (codes "RIFF") (codes "AVI ") b ≡ v → is_movie b ≡ w
        → is_mov (cond t (Some Wave) (cond u (Some Rf64) (cond x (Some Bw64) (cond v (Some Avi) (cond w (Some Mov) None))))) ≡ true → IsOther b × (is_movie b ≡ true)
    go true u x v w a c y d k h = absurd cc
    go false true x v w a c y d k h = absurd cc
    go false false true v w a c y d k h = absurd cc
    go false false false true w a c y d k h = absurd cc
    go false false false false true a c y d k h = (record { wave = a; rf64 = c; bw64 = y; avi = d }, k)
    go false false false false false a c y d k h = absurd cc

other_by : (b : List ℕ) → NoForm (take 4 b) → IsOther b
other_by b n = record { wave = rw n.0 refl; rf64 = rw n.1 refl; bw64 = rw n.2 refl; avi = rw n.0 refl }

small_other : (c : Chunk) (more : List ℕ) → AtomForm c.form → (c.form ≡ short → length c.body + 8 ≤ 2 ^ 28) → IsOther (spell c ++ more)
small_other c more form le = other_by (spell c ++ more) (subst NoForm (sym (first_word c more form)) (small_word c.form (length c.body) form le))

-- a file that begins with a small moov
pub moov_first : (c : Chunk) (more : List ℕ) → AtomForm c.form → c.id ≡ codes "moov" → length c.body + 8 ≤ 2 ^ 28 → begins_movie (spell c ++ more) ≡ true
moov_first c more form id le =
    let four : length c.id ≡ 4 = ap length id in
    movie_by (spell c ++ more) (small_other c more form (λ e. le)) (ap (λ (t : List ℕ). list_any (bytes_eq t) movie_types) (first_type c more form four ∙ id))

third : (c : Chunk) (more : List ℕ) → 12 ≤ length (spell c) → take 4 (drop 8 (spell c ++ more)) ≡ take 4 (drop 8 (spell c))
third c more le = ap (take 4) (drop-append-le 8 (spell c) more (omega arith)) ∙ take-append-le 4 (drop 8 (spell c)) more (omega (arith, length-drop 8 (spell c)))

-- a file that begins with the same atom
pub same_first : (c : Chunk) (more other : List ℕ) → Atom top c → begins_movie (spell c ++ more) ≡ true → begins_movie (spell c ++ other) ≡ true
same_first c more other a h =
    movie_by (spell c ++ other) (go (cases_lt (length (spell c)) 12))
    (ap (λ (t : List ℕ). list_any (bytes_eq t) movie_types) (first_type c other form a.id_len ∙ sym (first_type c more form a.id_len)) ∙ old.1)
  where
    atom_form : (c.form ≡ short) ⊎ (c.form ≡ long) → AtomForm c.form
    atom_form (inl e) = inl e
    atom_form (inr e) = inr (inl e)

    form : AtomForm c.form
    form = atom_form a.short_or_long

    old : IsOther (spell c ++ more) × (is_movie (spell c ++ more) ≡ true)
    old = movie_parts (spell c ++ more) h

    low : length (spell c) < 12 → c.form ≡ short → length c.body + 8 ≤ 2 ^ 28
    low lt e = omega (arith, length-append (header_bytes c.form c.id (length c.body)) (c.body ++ c.pad), length-append c.body c.pad)

    same_form : (id word : List ℕ) → 12 ≤ length (spell c) → is_form_of id word (spell c ++ other) ≡ is_form_of id word (spell c ++ more)
    same_form id word le =
        ap (λ (w : List ℕ). bytes_eq w id && bytes_eq (take 4 (drop 8 (spell c ++ other))) word) (first_word c other form ∙ sym (first_word c more form))
        ∙ ap (λ (w : List ℕ). bytes_eq (take 4 (spell c ++ more)) id && bytes_eq w word) (third c other le ∙ sym (third c more le))

    go : (length (spell c) < 12) ⊎ (12 ≤ length (spell c)) → IsOther (spell c ++ other)
    go (inl lt) = small_other c other form (low lt)
    go (inr le) = record {
      wave = same_form (codes "RIFF") (codes "WAVE") le ∙ old.0.wave;
      rf64 = same_form (codes "RF64") (codes "WAVE") le ∙ old.0.rf64;
      bw64 = same_form (codes "BW64") (codes "WAVE") le ∙ old.0.bw64;
      avi = same_form (codes "RIFF") (codes "AVI ") le ∙ old.0.avi;
    }
