-- The first `moov`, found atom by atom, and the kind of a file by its first bytes.
use Rattle.std.proofs.Common.{◌≡◌, ◌∙◌, ℕ, ◌+◌, ◌-◌, ◌≤◌, Bool, true, false, List, [], ◌∷◌, ◌++◌, length, length-append, append_assoc, take, drop, refl, sym, ap, arith, Option, Some, None}
use Rattle.std.specs.Prelude.{◌||◌, ◌&&◌, codes, if◌then◌else◌}
use Rattle.std.specs.Str.{bytes_eq}
use Rattle.std.specs.List.{list_any}
use Rattle.std.proofs.lemmas.List.{append-nil, drop-take, take-take, take_all}
use Rattle.part_tree.specs.Kinds.{kind, movie_types}
use Rattle.part_tree.specs.declared.names.Kind.{Kind}
use Rattle.part_tree.specs.declared.names.Kind.TheVariants.{Wave, Rf64, Bw64, Avi, Mov}
use Rattle.container_model.specs.Atoms.{is}
use Rattle.container_model.specs.Chunk.{Chunk, Run, Stop, and_then, chunks, spell, spell_all, stopped}
use Rattle.container_model.specs.Sizes.{atom_front, top}
use Rattle.container_model.specs.Walk.{body_at}
use Rattle.container_model.specs.Windows.{window}
use Rattle.container_model.proofs.Units.{spell_all-append}
use Rattle.mov_model.specs.Movie.{Movie, movie_of, split, top_run}
use Rattle.mov_model.specs.Parts.{has_id}
use Rattle.mov_model.proofs.Again.{split_again}
use Rattle.qt_atoms.specs.Walk.{InOrder, atom_in, row}
use Rattle.qt_atoms.specs.declared.walker.AtomAt.{AtomAt}
use Rattle.mov_file.specs.Moov.{IsMoov}

-- ---- the kind

-- the kind by the first, the second and the third four bytes
abbrev words_kind : List ℕ → List ℕ → List ℕ → Option Kind
words_kind x y z =
    if bytes_eq x (codes "RIFF") && bytes_eq z (codes "WAVE") then Some Wave
    else (if bytes_eq x (codes "RF64") && bytes_eq z (codes "WAVE") then Some Rf64
    else (if bytes_eq x (codes "BW64") && bytes_eq z (codes "WAVE") then Some Bw64
    else (if bytes_eq x (codes "RIFF") && bytes_eq z (codes "AVI ") then Some Avi
    else (if list_any (bytes_eq y) movie_types then Some Mov else None))))

same_kind : (a b : List ℕ) → take 4 a ≡ take 4 b → take 4 (drop 4 a) ≡ take 4 (drop 4 b) → take 4 (drop 8 a) ≡ take 4 (drop 8 b) → kind a ≡ kind b
same_kind a b x y z =
    ap (λ (w : List ℕ). words_kind w (take 4 (drop 4 a)) (take 4 (drop 8 a))) x
    ∙ ap (λ (w : List ℕ). words_kind (take 4 b) w (take 4 (drop 8 a))) y
    ∙ ap (λ (w : List ℕ). words_kind (take 4 b) (take 4 (drop 4 b)) w) z

in_front : (j : ℕ) (b : List ℕ) → j + 4 ≤ 12 → take 4 (drop j (take 12 b)) ≡ take 4 (drop j b)
in_front j b le =
    let split : 12 ≡ j + (12 - j) = omega arith in
    ap (λ (n : ℕ). take 4 (drop j (take n b))) split ∙ ap (take 4) (drop-take j (12 - j) b) ∙ take-take 4 (12 - j) (drop j b) (omega arith)

pub kind_read : (b : List ℕ) → kind (take 12 b) ≡ kind b
kind_read b = same_kind (take 12 b) b (in_front 0 b (omega arith)) (in_front 4 b (omega arith)) (in_front 8 b (omega arith))

-- ---- the first moov

has_both : (x : List ℕ) (a b : List Chunk) → has_id x (a ++ b) ≡ (has_id x a || has_id x b)
has_both x [] b = refl
has_both x (c ∷ a) b = go (is c x) (has_both x a b)
  where
    go : (t : Bool) → has_id x (a ++ b) ≡ (has_id x a || has_id x b) → (t || has_id x (a ++ b)) ≡ ((t || has_id x a) || has_id x b)
    go true again = refl
    go false again = again

-- the atoms so far are no `moov`, and those that are left follow
pub record Ahead (b : List ℕ) (at end : ℕ) : Type 0 where
  pub passed : List Chunk
  pub none : has_id (codes "moov") passed ≡ false
  pub all : (top_run b).chunks ≡ passed ++ (row top b at end).chunks
  pub place : length (spell_all passed) ≡ at

pub begun : (b : List ℕ) (len : ℕ) → length b ≡ len → Ahead b 0 len
begun b len is =
    let whole : b ≡ window b 0 len = sym (ap (λ (n : ℕ). take n b) (omega (arith, is)) ∙ take_all (length b) b (omega arith)) in
    record { passed = []; none = refl; all = ap (λ (x : List ℕ). (chunks atom_front top x).chunks) whole; place = refl }

pub passed_one : (b : List ℕ) (at next end : ℕ) (c : Chunk) → is c (codes "moov") ≡ false → row top b at end ≡ and_then c (row top b next end) → at + length (spell c) ≡ next → Ahead b at end → Ahead b next end
passed_one b at next end c other step place ahead =
    let before = ahead.passed in
    let rest = row top b next end in
    record {
      passed = before ++ c ∷ [];
      none = has_both (codes "moov") before (c ∷ []) ∙ rw (ahead.none, other) refl;
      all = ahead.all ∙ ap (λ (r : Run). before ++ r.chunks) step ∙ sym (append_assoc before (c ∷ []) rest.chunks);
      place = ap (λ (x : List ℕ). length x) (spell_all-append before (c ∷ []) ∙ ap (λ (x : List ℕ). spell_all before ++ x) (append-nil (spell c)))
          ∙ omega (arith, length-append (spell_all before) (spell c), ahead.place, place);
    }

pub no_more : (b : List ℕ) (at end : ℕ) (stop : Stop) (w : List ℕ) → row top b at end ≡ stopped stop w → Ahead b at end → has_id (codes "moov") (top_run b).chunks ≡ false
no_more b at end stop w step ahead =
    ap (has_id (codes "moov")) (ahead.all ∙ ap (λ (r : Run). ahead.passed ++ r.chunks) step ∙ append-nil ahead.passed) ∙ ahead.none

pub found_one : (b : List ℕ) (at end : ℕ) (k : AtomAt) → is (atom_in b k) (codes "moov") ≡ true → InOrder at end k → row top b at end ≡ and_then (atom_in b k) (row top b k.next end)
    → body_at k.at (atom_in b k) ≡ k.body.at → Ahead b at end → IsMoov b k
found_one b at end k this order step body ahead =
    let c = atom_in b k in
    let left = (top_run b).left in
    let rest = row top b k.next end in
    let parts : Movie = record { before = ahead.passed; movie = c; behind = rest.chunks; left = left } in
    let all : movie_of b ≡ parts = ap (λ (cs : List Chunk). split cs left) (ahead.all ∙ ap (λ (r : Run). ahead.passed ++ r.chunks) step) ∙ split_again ahead.passed c rest.chunks left ahead.none this in
    let place : length (spell_all ahead.passed) ≡ k.at = ahead.place ∙ sym order.begins in
    record {
      movie = ap (λ (m : Movie). m.movie) all;
      at = ap (λ (m : Movie). length (spell_all m.before)) all ∙ place;
      inside = ap (λ (m : Movie). body_at (length (spell_all m.before)) m.movie) all ∙ ap (λ (i : ℕ). body_at i c) place ∙ body;
    }
