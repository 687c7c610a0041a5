-- What is read is what was spelled, and what is spelled is read again.
use Rattle.std.proofs.Common.{◌≡◌, ℕ, zero, suc, ◌+◌, ◌<◌, ◌≤◌, Bool, true, false, ltb, List, [], ◌∷◌, ◌++◌, length, get_or, take, drop, refl, sym, ap, ◌∙◌, append_assoc, arith, inl, inr}
use Rattle.std.proofs.lemmas.Bool.{ltb-false, le-ltb}
use Rattle.std.proofs.lemmas.List.{take-append-drop, take_at, drop_at, length-append, get_or-drop, take_all, drop_all, append-nil}
use Rattle.std.specs.Int.{w32, w64, to_le_bytes, to_be_bytes}
use Rattle.container_model.specs.Chunk.{Form, riff, wide, short, long, to_end, header_bytes, pad_len, Chunk, spell, spell_all, Header, too_short, no_header, past_end, full_header, Run, joined, chunk_of, behind, turn, fit, read, chunks, GivesBack, PadStands, Stands, Reads, Head, Heads, Pads, IsRest, ends, and_then}

abbrev pub IsBytes : List ℕ → Type 0
IsBytes b = (i : ℕ) → get_or b i 0 < 256

pub IsBytes-drop : (n : ℕ) (b : List ℕ) → IsBytes b → IsBytes (drop n b)
IsBytes-drop n b h i = rw get_or-drop (h (n + i))

pub IsBytes-behind : (a b : List ℕ) → IsBytes (a ++ b) → IsBytes b
IsBytes-behind [] b h = h
IsBytes-behind (x ∷ a) b h = IsBytes-behind a b (λ i. h (suc i))

-- a body, its pad and what is behind them
parts : (form : Form) (n : ℕ) (after : List ℕ) → take n after ++ (take (pad_len form n) (drop n after) ++ behind form n after) ≡ after
parts form n after = rw (take-append-drop (pad_len form n) (drop n after), take-append-drop n after)

take_len : (n : ℕ) (b : List ℕ) → n ≤ length b → length (take n b) ≡ n
take_len n b h = omega (arith, Rattle.std.proofs.lemmas.List.length-take n b)

joined_fit : {S : Type 0} (more : S → List ℕ → Run) (b : List ℕ) (form : Form) (id : List ℕ) (n : ℕ) (after : List ℕ) (next : S) (r : Bool)
    → ltb (length after) n ≡ r → b ≡ header_bytes form id n ++ after → joined (more next (behind form n after)) ≡ behind form n after
    → joined (fit more b form id n after next r) ≡ b
joined_fit more b form id n after next true e spelled again = refl
joined_fit more b form id n after next false e spelled again =
    let len : length (take n after) ≡ n = take_len n after (ltb-false _ _ e) in
    let r = more next (behind form n after) in
    let c = chunk_of form id n after in
    let one : (spell c ++ spell_all r.chunks) ++ r.left ≡ header_bytes form id (length (take n after)) ++ (take n after ++ (take (pad_len form n) (drop n after) ++ joined r)) = simp append_assoc in
    one ∙ rw (len, again, parts form n after) (sym spelled)

joined_turn : {S : Type 0} (front : S → List ℕ → Header S) (more : S → List ℕ → Run) (s : S) (b : List ℕ) (a : Header S)
    → GivesBack front → IsBytes b → front s b ≡ a → ((next : S) (x : List ℕ) → IsBytes x → joined (more next x) ≡ x)
    → joined (turn more b a) ≡ b
joined_turn front more s b too_short good fits e again = refl
joined_turn front more s b no_header good fits e again = refl
joined_turn front more s b past_end good fits e again = refl
joined_turn front more s b (full_header form id n after next) good fits e again =
    let spelled = good s next b id after form n fits e in
    let fits_after : IsBytes after = IsBytes-behind (header_bytes form id n) after (rw spelled at fits) in
    joined_fit more b form id n after next (ltb (length after) n) refl spelled
    (again next (behind form n after) (IsBytes-drop (pad_len form n) (drop n after) (IsBytes-drop n after fits_after)))

-- what was read, spelled, is the bytes
pub read_joined : {S : Type 0} (front : S → List ℕ → Header S) (good : GivesBack front) (k : ℕ) (s : S) (b : List ℕ) → IsBytes b → joined (read front k s b) ≡ b
unfolding read
read_joined front good zero s b fits = refl
read_joined front good (suc k) s b fits = joined_turn front (read front k) s b (front s b) good fits refl (λ next x. read_joined front good k next x)

pub chunks_joined : {S : Type 0} (front : S → List ℕ → Header S) (good : GivesBack front) (s : S) (b : List ℕ) → IsBytes b → joined (chunks front s b) ≡ b
unfolding chunks
chunks_joined front good s b fits = read_joined front good (suc (length b)) s b fits

-- ---- the other way

pad_taken : (form : Form) (n : ℕ) (pad more : List ℕ) → PadStands form n pad more → (take (pad_len form n) (pad ++ more) ≡ pad) × (drop (pad_len form n) (pad ++ more) ≡ more)
pad_taken form n pad more (inl e) = (take_at pad more _ e, drop_at pad more _ e)
pad_taken form n pad more (inr h) =
    (rw (h.1, append-nil) (take_all _ pad h.0), rw (h.1, append-nil) (drop_all _ pad h.0))

pub turn_stands : {S : Type 0} (front : S → List ℕ → Header S) (again : S → List ℕ → Run) (s next : S) (c : Chunk) (more : List ℕ)
    → Stands front s next c more → turn again (spell c ++ more) (front s (spell c ++ more)) ≡ and_then c (again next more)
turn_stands front again s next c more h =
    let after = c.body ++ (c.pad ++ more) in
    let long : ltb (length after) (length c.body) ≡ false = le-ltb _ _ (omega (arith, length-append c.body (c.pad ++ more))) in
    let p = pad_taken c.form (length c.body) c.pad more h.padded in
    rw (h.header_read, long, take_at c.body (c.pad ++ more) (length c.body) refl, drop_at c.body (c.pad ++ more) (length c.body) refl, p.0, p.1) refl

pub read_spelled : {S : Type 0} (front : S → List ℕ → Header S) (k : ℕ) (s : S) (cs : List Chunk) (left : List ℕ)
    → length cs < k → Reads front s cs left → read front k s (spell_all cs ++ left) ≡ record { chunks = cs; stop = ends; left = left }
unfolding read
read_spelled front zero s cs left lt h = absurd (omega arith)
read_spelled front (suc k) s [] left lt h = rw h refl
read_spelled front (suc k) s (c ∷ cs) left lt h =
    let again = read_spelled front k h.0 cs left (omega arith) h.2 in
    let split : (spell c ++ spell_all cs) ++ left ≡ spell c ++ (spell_all cs ++ left) = append_assoc (spell c) (spell_all cs) left in
    ap (λ (b : List ℕ). turn (read front k) b (front s b)) split ∙ turn_stands front (read front k) s h.0 c (spell_all cs ++ left) h.1 ∙ ap (and_then c) again

-- a header has a byte
header_some : (form : Form) (id : List ℕ) (n : ℕ) → 1 ≤ length (header_bytes form id n)
header_some riff id n = omega (arith, length-append id (to_le_bytes w32 n))
header_some wide id n = omega (arith, length-append id (255 ∷ 255 ∷ 255 ∷ 255 ∷ []))
header_some short id n = omega (arith, length-append (to_be_bytes w32 (n + 8)) id)
header_some long id n = omega (arith, length-append (to_be_bytes w32 1) (id ++ to_be_bytes w64 (n + 16)))
header_some to_end id n = omega (arith, length-append (to_be_bytes w32 0) id)

pub as_many : (cs : List Chunk) → length cs ≤ length (spell_all cs)
as_many [] = omega arith
as_many (c ∷ cs) = omega (arith, as_many cs, header_some c.form c.id (length c.body), length-append (spell c) (spell_all cs), length-append (header_bytes c.form c.id (length c.body)) (c.body ++ c.pad))

-- what is spelled is read again
pub chunks_spelled : {S : Type 0} (front : S → List ℕ → Header S) (s : S) (cs : List Chunk) (left : List ℕ)
    → Reads front s cs left → chunks front s (spell_all cs ++ left) ≡ record { chunks = cs; stop = ends; left = left }
unfolding chunks
chunks_spelled front s cs left h = read_spelled front (suc (length (spell_all cs ++ left))) s cs left (omega (arith, as_many cs, length-append (spell_all cs) left)) h

abbrev record_of : List Chunk → List ℕ → Run
record_of cs left = record { chunks = cs; stop = ends; left = left }

-- bytes are one list of chunks and one rest
pub chunks_unique : {S : Type 0} (front : S → List ℕ → Header S) (s : S) (cs ds : List Chunk) (left rest : List ℕ)
    → Reads front s cs left → Reads front s ds rest → spell_all cs ++ left ≡ spell_all ds ++ rest → (cs ≡ ds) × (left ≡ rest)
chunks_unique front s cs ds left rest h g e =
    let both : record_of cs left ≡ record_of ds rest = sym (chunks_spelled front s cs left h) ∙ (ap (chunks front s) e ∙ chunks_spelled front s ds rest g) in
    (ap (λ (r : Run). r.chunks) both, ap (λ (r : Run). r.left) both)

pub reads_from : {S : Type 0} (front : S → List ℕ → Header S) (s : S) (cs : List Chunk) (left : List ℕ) → Heads front s cs → Pads cs left → IsRest front left → Reads front s cs left
reads_from front s [] left h p r = r s
reads_from front s (c ∷ cs) left h p r =
    let more = spell_all cs ++ left in
    let split : spell c ++ more ≡ header_bytes c.form c.id (length c.body) ++ (c.body ++ (c.pad ++ more)) = simp append_assoc in
    (h.0, record { header_read = rw split (h.1 (c.body ++ (c.pad ++ more))); padded = p.0 }, reads_from front h.0 cs left h.2 p.1 r)

-- ---- the pads that are read

pad_read : (form : Form) (n : ℕ) (after : List ℕ) → n ≤ length after → PadStands form (length (take n after)) (take (pad_len form n) (drop n after)) (behind form n after)
pad_read form n after h =
    let len : length (take n after) ≡ n = take_len n after h in
    rw len (elim (Rattle.std.proofs.lemmas.Bool.cases_lt (length (drop n after)) (pad_len form n)) [
      | inl lt ↦ inr (omega (arith, Rattle.std.proofs.lemmas.List.length-take (pad_len form n) (drop n after)), drop_all (pad_len form n) (drop n after) (omega arith))
      | inr le ↦ inl (take_len (pad_len form n) (drop n after) le)
    ])

module _ {S : Type 0} (front : S → List ℕ → Header S) (good : GivesBack front) where
  pads_fit : (again : S → List ℕ → Run) (b : List ℕ) (form : Form) (id : List ℕ) (n : ℕ) (after : List ℕ) (next : S) (r : Bool) → ltb (length after) n ≡ r
      → joined (again next (behind form n after)) ≡ behind form n after → Pads (again next (behind form n after)).chunks (again next (behind form n after)).left
      → Pads (fit again b form id n after next r).chunks (fit again b form id n after next r).left
  pads_fit again b form id n after next true e j h = tt
  pads_fit again b form id n after next false e j h = (rw j (pad_read form n after (ltb-false _ _ e)), h)

  pads_turn : (again : S → List ℕ → Run) (s : S) (b : List ℕ) (a : Header S) → IsBytes b → front s b ≡ a
      → ((next : S) (x : List ℕ) → IsBytes x → (joined (again next x) ≡ x) × Pads (again next x).chunks (again next x).left)
      → Pads (turn again b a).chunks (turn again b a).left
  pads_turn again s b too_short fits e h = tt
  pads_turn again s b no_header fits e h = tt
  pads_turn again s b past_end fits e h = tt
  pads_turn again s b (full_header form id n after next) fits e h =
      let fits_after : IsBytes after = IsBytes-behind (header_bytes form id n) after (rw (good s next b id after form n fits e) at fits) in
      let g = h next (behind form n after) (IsBytes-drop (pad_len form n) (drop n after) (IsBytes-drop n after fits_after)) in
      pads_fit again b form id n after next (ltb (length after) n) refl g.0 g.1

  pub read_pads : (k : ℕ) (s : S) (b : List ℕ) → IsBytes b → Pads (read front k s b).chunks (read front k s b).left
  unfolding read
  read_pads zero s b fits = tt
  read_pads (suc k) s b fits = pads_turn (read front k) s b (front s b) fits refl (λ next x f. (read_joined front good k next x f, read_pads k next x f))

  pub chunks_pads : (s : S) (b : List ℕ) → IsBytes b → Pads (chunks front s b).chunks (chunks front s b).left
  unfolding chunks
  chunks_pads s b fits = read_pads (suc (length b)) s b fits

-- ---- chunks whose headers are read whatever follows, and others behind them

abbrev pub HeadsTo : {S : Type 0} → (S → List ℕ → Header S) → S → List Chunk → S → Type 0
HeadsTo front s [] last = s ≡ last
HeadsTo {S} front s (c ∷ cs) last = (next : S) × Head front s next c × HeadsTo front next cs last

pub reads_after : {S : Type 0} (front : S → List ℕ → Header S) (s last : S) (a b : List Chunk) (left : List ℕ) → HeadsTo front s a last → Pads a (spell_all b ++ left) → Reads front last b left → Reads front s (a ++ b) left
reads_after front s last [] b left h p r = Rattle.std.proofs.Common.subst (λ (x : _). Reads front x b left) (sym h) r
reads_after front s last (c ∷ a) b left h p r =
    let more = spell_all (a ++ b) ++ left in
    let split : spell c ++ more ≡ header_bytes c.form c.id (length c.body) ++ (c.body ++ (c.pad ++ more)) = simp append_assoc in
    let same : spell_all a ++ (spell_all b ++ left) ≡ more = sym (ap (λ (x : List ℕ). x ++ left) (spell_both a b) ∙ append_assoc (spell_all a) (spell_all b) left) in
    (h.0, record { header_read = rw split (h.1 (c.body ++ (c.pad ++ more))); padded = rw (← same) p.0 }, reads_after front h.0 last a b left h.2 p.1 r)
  where
    spell_both : (x y : List Chunk) → spell_all (x ++ y) ≡ spell_all x ++ spell_all y
    spell_both [] y = refl
    spell_both (d ∷ x) y = rw (spell_both x y) (sym (append_assoc (spell d) (spell_all x) (spell_all y)))

-- ---- what is read stands

abbrev RunReads : {S : Type 0} → (S → List ℕ → Header S) → S → Run → Type 0
RunReads front s r = r.stop ≡ ends → Reads front s r.chunks r.left

module _ {S : Type 0} (front : S → List ℕ → Header S) (good : GivesBack front) where
  fit_reads : (again : S → List ℕ → Run) (s : S) (b : List ℕ) (form : Form) (id : List ℕ) (n : ℕ) (after : List ℕ) (next : S) (r : Bool) → ltb (length after) n ≡ r
      → front s b ≡ full_header form id n after next → b ≡ header_bytes form id n ++ after
      → joined (again next (behind form n after)) ≡ behind form n after → RunReads front next (again next (behind form n after))
      → RunReads front s (fit again b form id n after next r)
  fit_reads again s b form id n after next true e f sp j h = λ x. absurd cc
  fit_reads again s b form id n after next false e f sp j h = λ x.
      let len : length (take n after) ≡ n = take_len n after (ltb-false _ _ e) in
      let c = chunk_of form id n after in
      let more = joined (again next (behind form n after)) in
      let split : spell c ++ more ≡ header_bytes form id (length (take n after)) ++ (take n after ++ (take (pad_len form n) (drop n after) ++ more)) = simp append_assoc in
      let inner : take n after ++ (take (pad_len form n) (drop n after) ++ more) ≡ after = rw j (parts form n after) in
      let whole : spell c ++ more ≡ b = split ∙ rw (len, inner) (sym sp) in
      let head : front s (spell c ++ more) ≡ full_header form id (length (take n after)) (take n after ++ (take (pad_len form n) (drop n after) ++ more)) next = ap (front s) whole ∙ f ∙ sym (rw (len, inner) refl) in
      (next, record { header_read = head; padded = rw j (pad_read form n after (ltb-false _ _ e)) }, h x)

  turn_reads : (again : S → List ℕ → Run) (s : S) (b : List ℕ) (a : Header S) → IsBytes b → front s b ≡ a
      → ((next : S) (x : List ℕ) → IsBytes x → (joined (again next x) ≡ x) × RunReads front next (again next x))
      → RunReads front s (turn again b a)
  turn_reads again s b too_short fits e h = λ x. e
  turn_reads again s b no_header fits e h = λ x. absurd cc
  turn_reads again s b past_end fits e h = λ x. absurd cc
  turn_reads again s b (full_header form id n after next) fits e h =
      let spelled = good s next b id after form n fits e in
      let fits_after : IsBytes after = IsBytes-behind (header_bytes form id n) after (rw spelled at fits) in
      let g = h next (behind form n after) (IsBytes-drop (pad_len form n) (drop n after) (IsBytes-drop n after fits_after)) in
      fit_reads again s b form id n after next (ltb (length after) n) refl e spelled g.0 g.1

  read_reads : (k : ℕ) (s : S) (b : List ℕ) → IsBytes b → RunReads front s (read front k s b)
  unfolding read
  read_reads zero s b fits = λ x. absurd cc
  read_reads (suc k) s b fits = turn_reads (read front k) s b (front s b) fits refl (λ next x g. (read_joined front good k next x g, read_reads k next x g))

  -- bytes without a fault are chunks and a rest
  pub chunks_read : (s : S) (b : List ℕ) → IsBytes b → (chunks front s b).stop ≡ ends → Reads front s (chunks front s b).chunks (chunks front s b).left
  unfolding chunks
  chunks_read s b fits = read_reads (suc (length b)) s b fits
