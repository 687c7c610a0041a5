-- Spans inside the bodies of chunks that are replaced by as many bytes: the chunks stay, with other bodies.
use Rattle.std.proofs.Common.{◌≡◌, ℕ, ◌+◌, ◌-◌, ◌≤◌, List, [], ◌∷◌, ◌++◌, length, take, drop, refl, sym, ap, ◌∙◌, append_assoc, arith}
use Rattle.std.specs.List.{AllByRecursion}
use Rattle.std.proofs.lemmas.List.{length-append, length-take, length-drop, take-append-le, drop-append-le}
use Rattle.container_model.specs.Chunk.{Chunk, header_bytes, spell, spell_all}
use Rattle.container_model.specs.Splice.{Cut, end_of, splice_from, Ascend}
use Rattle.container_model.proofs.Units.{From, splice_past}
use Rattle.container_model.proofs.Deep.{Alike}

ascend_end : (from end : ℕ) (cs : List Cut) → Ascend from cs end → from ≤ end
ascend_end from end [] h = h
ascend_end from end (c ∷ cs) h = omega (arith, ascend_end (end_of c) end cs h.1)

-- spans in the first part, and spans behind it
pub splice_both : (at : ℕ) (b rest : List ℕ) (g more : List Cut) → Ascend at g (at + length b) → From (at + length b) more → splice_from at (b ++ rest) (g ++ more) ≡ splice_from at b g ++ splice_from (at + length b) rest more
splice_both at b rest [] more h f = splice_past at b rest more f
splice_both at b rest (c ∷ g) more h f =
    let low = ascend_end (end_of c) (at + length b) g h.1 in
    let tail = drop (end_of c - at) b in
    let e : end_of c + length tail ≡ at + length b = omega (arith, length-drop (end_of c - at) b, low, h.0) in
    let again = splice_both (end_of c) tail rest g more (rw e h.1) (rw e f) in
    let front : take (c.at - at) (b ++ rest) ≡ take (c.at - at) b = take-append-le (c.at - at) b rest (omega (arith, low)) in
    let back : drop (end_of c - at) (b ++ rest) ≡ tail ++ rest = drop-append-le (end_of c - at) b rest (omega (arith, low)) in
    rw (front, back, again, e) (simp append_assoc)

abbrev pub SameLength : List Cut → Type 0
SameLength g = AllByRecursion (λ c. length c.bytes ≡ c.len) g

pub splice_length : (at : ℕ) (b : List ℕ) (g : List Cut) → Ascend at g (at + length b) → SameLength g → length (splice_from at b g) ≡ length b
splice_length at b [] h s = refl
splice_length at b (c ∷ g) h s =
    let low = ascend_end (end_of c) (at + length b) g h.1 in
    let tail = drop (end_of c - at) b in
    let e : end_of c + length tail ≡ at + length b = omega (arith, length-drop (end_of c - at) b, low, h.0) in
    let again = splice_length (end_of c) tail g (rw e h.1) s.1 in
    omega (arith, again, e, s.0, h.0, low, length-take (c.at - at) b, length-append (take (c.at - at) b) (c.bytes ++ splice_from (end_of c) tail g), length-append c.bytes (splice_from (end_of c) tail g))

-- a chunk, and the spans in its body
pub record Patched : Type 0 where
  pub chunk : Chunk
  pub spans : List Cut

abbrev head_length : Chunk → ℕ
head_length c = length (header_bytes c.form c.id (length c.body))

abbrev pub now : ℕ → Patched → Chunk
now at p = record p.chunk { body = splice_from (at + head_length p.chunk) p.chunk.body p.spans }

abbrev pub olds : List Patched → List Chunk
olds [] = []
olds (p ∷ ps) = p.chunk ∷ olds ps

abbrev pub nows : ℕ → List Patched → List Chunk
nows at [] = []
nows at (p ∷ ps) = now at p ∷ nows (at + length (spell p.chunk)) ps

abbrev pub all_spans : List Patched → List Cut
all_spans [] = []
all_spans (p ∷ ps) = p.spans ++ all_spans ps

-- each chunk's spans lie in its body and keep its length
abbrev pub InBodies : ℕ → List Patched → Type 0
InBodies at [] = Unit {0}
InBodies at (p ∷ ps) = Ascend (at + head_length p.chunk) p.spans (at + head_length p.chunk + length p.chunk.body) × SameLength p.spans × InBodies (at + length (spell p.chunk)) ps

pub now_alike : (at : ℕ) (p : Patched) → Ascend (at + head_length p.chunk) p.spans (at + head_length p.chunk + length p.chunk.body) → SameLength p.spans → Alike p.chunk (now at p)
now_alike at p h s = record { form_is = refl; id_is = refl; len_is = splice_length (at + head_length p.chunk) p.chunk.body p.spans h s; pad_is = refl }

From-ascend : (low at : ℕ) (end : ℕ) (g : List Cut) (more : List Cut) → low ≤ at → Ascend at g end → From low more → From low (g ++ more)
From-ascend low at end [] more le h f = f
From-ascend low at end (c ∷ g) more le h f = omega arith

spans_from : (low at : ℕ) (ps : List Patched) → low ≤ at → InBodies at ps → From low (all_spans ps)
spans_from low at [] le h = tt
spans_from low at (p ∷ ps) le h = From-ascend low (at + head_length p.chunk) _ p.spans (all_spans ps) (omega arith) h.0 (spans_from low (at + length (spell p.chunk)) ps (omega arith) h.2)

-- The bytes with the spans replaced are the spelling of the chunks with their bodies replaced.
pub patched_bytes : (at : ℕ) (ps : List Patched) (left : List ℕ) → InBodies at ps → splice_from at (spell_all (olds ps) ++ left) (all_spans ps) ≡ spell_all (nows at ps) ++ left
patched_bytes at [] left h = refl
patched_bytes at (p ∷ ps) left h =
    let c = p.chunk in
    let head = header_bytes c.form c.id (length c.body) in
    let q = at + length head in
    let next = at + length (spell c) in
    let more = all_spans ps in
    let rest = spell_all (olds ps) ++ left in
    let again = patched_bytes next ps left h.2 in
    let len : q + length c.body + length c.pad ≡ next = omega (arith, length-append head (c.body ++ c.pad), length-append c.body c.pad) in
    let split : (spell c ++ spell_all (olds ps)) ++ left ≡ head ++ (c.body ++ (c.pad ++ rest)) = simp append_assoc in
    let behind : From (q + length c.body + length c.pad) more = rw len (spans_from next next ps (omega arith) h.2) in
    let behind_body : From (q + length c.body) more = spans_from (q + length c.body) next ps (omega (arith, len)) h.2 in
    let first : From q (p.spans ++ more) = From-ascend q q _ p.spans more (omega arith) h.0 (spans_from q next ps (omega (arith, len)) h.2) in
    let body = splice_from q c.body p.spans in
    let tail : splice_from (q + length c.body) (c.pad ++ rest) more ≡ c.pad ++ (spell_all (nows next ps) ++ left) = splice_past (q + length c.body) c.pad rest more behind ∙ rw (len, again) refl in
    let same : header_bytes c.form c.id (length body) ≡ head = ap (header_bytes c.form c.id) (splice_length q c.body p.spans h.0 h.1) in
    let new : spell (now at p) ≡ head ++ (body ++ c.pad) = ap (λ (x : List ℕ). x ++ (body ++ c.pad)) same in
    ap (λ (x : List ℕ). splice_from at x (p.spans ++ more)) split ∙ splice_past at head (c.body ++ (c.pad ++ rest)) (p.spans ++ more) first
    ∙ ap (λ (x : List ℕ). head ++ x) (splice_both q c.body (c.pad ++ rest) p.spans more h.0 behind_body ∙ ap (λ (x : List ℕ). body ++ x) tail)
    ∙ sym (rw new (simp append_assoc))
