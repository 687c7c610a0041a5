-- Where the atoms that are read lie: the body of each stands in the file behind its header, and nothing pads it.
use Rattle.std.proofs.Common.{◌≡◌, ◌∙◌, ℕ, zero, suc, ◌+◌, ◌-◌, ◌<◌, ◌≤◌, ◌⊎◌, inl, inr, Bool, true, false, ltb, eqb, List, [], ◌∷◌, ◌++◌, length, take, drop, refl, sym, ap, subst, arith, length-drop, Option, Some, None}
use Rattle.std.specs.Int.{w32, w64, from_be_bytes}
use Rattle.std.specs.List.{AllByRecursion}
use Rattle.std.proofs.lemmas.Bool.{cases_lt, eqb-true, ltb-false}
use Rattle.std.proofs.lemmas.List.{length-take}
use Rattle.part_tree.specs.declared.names.Span.{Span}
use Rattle.container_model.specs.Chunk.{Chunk, Form, Header, Run, Stop, and_then, bad_header, chunks, ends, full_header, no_header, passes, past_end, spell, spell_all, stopped, too_short}
use Rattle.container_model.specs.Deep.{kids}
use Rattle.container_model.specs.Sizes.{Level, atom_ahead, atom_by, atom_front, atom_long, atom_short, atom_wide, atom_zero, inside, kind_at, top, user}
use Rattle.container_model.specs.Walk.{Step, along, body_at, chunk_at, end_at, walk, walk_at}
use Rattle.container_model.specs.Windows.{window}
use Rattle.container_model.specs.Written.{slice}
use Rattle.container_model.proofs.Walk.{all_join}
use Rattle.container_model.proofs.Windows.{length-window, length_slice}
use Rattle.mov_model.specs.Atoms.{Place, format, opens}
use Rattle.mov_model.specs.Map.{Kid, body_span}
use Rattle.qt_atoms.specs.Walk.{InOrder, Stepped, atom_in, form_of, header_len, row}
use Rattle.qt_atoms.specs.declared.header.SizeForm.{SizeForm}
use Rattle.qt_atoms.specs.declared.header.SizeForm.TheVariants.{Short, Long, ToEnd}
use Rattle.qt_atoms.specs.declared.walker.AtomAt.{AtomAt}
use Rattle.qt_atoms.proofs.Steps.{bad_stuck, cut_stuck, few_stepped, header_length, past_stuck, stepped}
use Rattle.mov_file.specs.Carriers.{kid_at}

-- ---- a header

-- a header that is whole: its form, and the length of the body
record Whole (s : Level) (w : List ℕ) : Type 0 where
  form : SizeForm
  len : ℕ
  is : atom_front s w ≡ full_header (form_of form) (kind_at w) len (drop (header_len form) w) s
  room : header_len form ≤ length w
  all : form ≡ ToEnd → header_len form + len ≡ length w

-- what stands at the front of some bytes
data Front (s : Level) (w : List ℕ) : Type 0 where
  few : atom_front s w ≡ too_short → Front s w
  bad : atom_front s w ≡ no_header → Front s w
  past : atom_front s w ≡ past_end → Front s w
  whole : Whole s w → Front s w

front_of : (s : Level) (w : List ℕ) → Front s w
front_of s w = ahead (ltb (length w) 8) refl
  where
    m : ℕ
    m = from_be_bytes w32 (take 4 w)

    wide : ℕ
    wide = from_be_bytes w64 (take 8 (drop 8 w))

    long : (t : Bool) → ltb (length w) 16 ≡ false → ltb wide 16 ≡ t → atom_front s w ≡ atom_long s w wide t → Front s w
    long true r e f = bad f
    long false r e f = whole (record { form = Long; len = wide - 16; is = f; room = ltb-false (length w) 16 r; all = λ x. absurd cc })

    sixteen : (t : Bool) → ltb (length w) 16 ≡ t → atom_front s w ≡ atom_wide s w t → Front s w
    sixteen true e f = past f
    sixteen false e f = long (ltb wide 16) e refl f

    none : (l : Level) → s ≡ l → ltb (length w) 8 ≡ false → atom_front s w ≡ atom_zero l w → Front s w
    none top e r f =
        let le = ltb-false (length w) 8 r in
        let here : atom_front s w ≡ full_header (form_of ToEnd) (kind_at w) (length w - 8) (drop 8 w) s = f ∙ ap (λ (l : Level). full_header (form_of ToEnd) (kind_at w) (length w - 8) (drop 8 w) l) (sym e) in
        whole (record { form = ToEnd; len = length w - 8; is = here; room = le; all = λ x. omega (arith, le) })
    none inside e r f = bad f
    none user e r f = few f

    short : (t : Bool) → ltb (length w) 8 ≡ false → atom_front s w ≡ atom_short s w m t → Front s w
    short true r f = bad f
    short false r f = whole (record { form = Short; len = m - 8; is = f; room = ltb-false (length w) 8 r; all = λ x. absurd cc })

    by : (t u : Bool) → ltb (length w) 8 ≡ false → atom_front s w ≡ atom_by s w m t u → Front s w
    by true u r f = sixteen (ltb (length w) 16) refl f
    by false true r f = none s refl r f
    by false false r f = short (ltb m 8) r f

    ahead : (t : Bool) → ltb (length w) 8 ≡ t → Front s w
    ahead true e = few (ap (atom_ahead s w) e)
    ahead false e = by (eqb m 1) (eqb m 0) e (ap (atom_ahead s w) e)

-- ---- the next atom

-- nothing more is read, or an atom and those behind it
data Next (s : Level) (b : List ℕ) (at end : ℕ) : Type 0 where
  stops : (stop : Stop) → row s b at end ≡ stopped stop (window b at end) → Next s b at end
  goes : (k : AtomAt) → InOrder at end k → Stepped s b at end (Some k) → Next s b at end

next_of : (s : Level) (b : List ℕ) (at end : ℕ) → at ≤ end → end ≤ length b → Next s b at end
next_of s b at end low fits = go (front_of s (window b at end))
  where
    w : List ℕ
    w = window b at end

    size : length w ≡ end - at
    size = length-window b at end fits

    here : Whole s w → AtomAt
    here h = record { kind = record { 0 = kind_at w }; at = at; body = record { at = at + header_len h.form; len = h.len }; form = h.form; next = at + header_len h.form + h.len }

    least : (f : SizeForm) → 8 ≤ header_len f
    least Short = omega arith
    least Long = omega arith
    least ToEnd = omega arith

    order : (h : Whole s w) → header_len h.form + h.len ≤ length w → InOrder at end (here h)
    order h le = record {
      letters = length-take 4 (drop 4 w) ∙ omega (arith, length-drop 4 w, h.room, least h.form);
      begins = refl;
      body = refl;
      behind = refl;
      last = omega (arith, le, size, low);
      all = λ e. omega (arith, h.all e, size, low);
    }

    go : Front s w → Next s b at end
    go (few e) = stops ends (few_stepped s b at end e)
    go (bad e) = stops bad_header (bad_stuck s b at end e)
    go (past e) = stops passes (past_stuck s b at end e)
    go (whole h) = elim (cases_lt (length w) (header_len h.form + h.len)) [
      | inl lt ↦ stops passes (cut_stuck s b at end h.form (kind_at w) h.len fits (omega (arith, h.room, size)) (omega (arith, lt, size)) h.is)
      | inr le ↦ goes (here h) (order h le) (stepped s b at end (here h) fits (order h le) h.is)
    ]

-- ---- where atoms lie

-- an atom's body lies in the file, and nothing pads it
pub record Sits (b : List ℕ) (at : ℕ) (c : Chunk) : Type 0 where
  pub body : c.body ≡ slice b (body_at at c) (length c.body)
  pub fits : body_at at c + length c.body ≤ length b
  pub pad : c.pad ≡ []

abbrev pub KidSits : List ℕ → Kid → Type 0
KidSits b k = Sits b k.at k.atom

pub atom_sits : (b : List ℕ) (at end : ℕ) (k : AtomAt) → InOrder at end k → end ≤ length b → Sits b at (atom_in b k)
atom_sits b at end k order fits =
    let len : length (slice b k.body.at k.body.len) ≡ k.body.len = length_slice b k.body.at k.body.len (omega (arith, fits, order.behind, order.last)) in
    let place : body_at at (atom_in b k) ≡ k.body.at = ap (λ (n : ℕ). at + n) (header_length k.form k.kind.0 (length (slice b k.body.at k.body.len)) order.letters) ∙ sym order.body in
    record {
      body = ap (λ (n : ℕ). take n (drop k.body.at b)) (sym len) ∙ ap (λ (i : ℕ). slice b i (length (slice b k.body.at k.body.len))) (sym place);
      fits = omega (arith, len, place, fits, order.behind, order.last);
      pad = refl;
    }

-- the atoms from a place up to an end
abbrev pub kids_at : Level → List ℕ → ℕ → ℕ → List Kid
kids_at s b at end = along kid_at at (row s b at end).chunks

row_sits : (n : ℕ) (s : Level) (b : List ℕ) (at end : ℕ) → end - at ≤ n → at ≤ end → end ≤ length b → AllByRecursion (KidSits b) (kids_at s b at end)
row_sits zero s b at end less low fits = go (next_of s b at end low fits)
  where
    go : Next s b at end → AllByRecursion (KidSits b) (kids_at s b at end)
    go (stops stop e) = subst (λ (r : Run). AllByRecursion (KidSits b) (along kid_at at r.chunks)) (sym e) tt
    go (goes k order step) = absurd (omega (arith, less, order.body, order.behind, order.last, least k.form))
      where
        least : (f : SizeForm) → 8 ≤ header_len f
        least Short = omega arith
        least Long = omega arith
        least ToEnd = omega arith
row_sits (suc n) s b at end less low fits = go (next_of s b at end low fits) (λ k few under. row_sits n s b k.next end few under fits)
  where
    least : (f : SizeForm) → 8 ≤ header_len f
    least Short = omega arith
    least Long = omega arith
    least ToEnd = omega arith

    go : Next s b at end → ((k : AtomAt) → end - k.next ≤ n → k.next ≤ end → AllByRecursion (KidSits b) (kids_at s b k.next end)) → AllByRecursion (KidSits b) (kids_at s b at end)
    go (stops stop e) again = subst (λ (r : Run). AllByRecursion (KidSits b) (along kid_at at r.chunks)) (sym e) tt
    go (goes k order step) again =
        let more : AllByRecursion (KidSits b) (kids_at s b k.next end) = again k (omega (arith, less, order.body, order.behind, least k.form)) order.last in
        let rest : AllByRecursion (KidSits b) (along kid_at (at + length (spell (atom_in b k))) (row s b k.next end).chunks) = subst (λ (i : ℕ). AllByRecursion (KidSits b) (along kid_at i (row s b k.next end).chunks)) (sym step.1) more in
        subst (λ (r : Run). AllByRecursion (KidSits b) (along kid_at at r.chunks)) (sym step.0) (atom_sits b at end k order fits, rest)

pub atoms_sit : (s : Level) (b : List ℕ) (at end : ℕ) → at ≤ end → end ≤ length b → AllByRecursion (KidSits b) (kids_at s b at end)
atoms_sit s b at end low fits = row_sits (end - at) s b at end (omega arith) low fits

-- ---- those in an atom

abbrev pub StepSits : List ℕ → Step Place → Type 0
StepSits b (chunk_at p at c) = Sits b at c
StepSits b (end_at p at stop) = Unit {0}

along_sits : (b : List ℕ) (g : ℕ → Chunk → List (Step Place)) → ((at : ℕ) (c : Chunk) → Sits b at c → AllByRecursion (StepSits b) (g at c)) → (at : ℕ) (cs : List Chunk) → AllByRecursion (KidSits b) (along kid_at at cs)
    → AllByRecursion (StepSits b) (along g at cs)
along_sits b g h at [] k = tt
along_sits b g h at (c ∷ cs) k = all_join (StepSits b) (g at c) (along g (at + length (spell c)) cs) (h at c k.0) (along_sits b g h (at + length (spell c)) cs k.1)

-- the atoms in an atom that lies in the file
pub inner_sit : (s : Level) (b : List ℕ) (at : ℕ) (c : Chunk) → Sits b at c → AllByRecursion (KidSits b) (along kid_at (body_at at c) (chunks atom_front s c.body).chunks)
inner_sit s b at c sits =
    let place = body_at at c in
    let n = length c.body in
    let run : row s b place (place + n) ≡ chunks atom_front s c.body = ap (chunks atom_front s) (ap (λ (i : ℕ). take i (drop place b)) (omega arith) ∙ sym sits.body) in
    subst (λ (r : Run). AllByRecursion (KidSits b) (along kid_at place r.chunks)) run (atoms_sit s b place (place + n) (omega arith) sits.fits)

pub walk_sits : (b : List ℕ) (d : ℕ) (p : Place) (at : ℕ) (c : Chunk) → Sits b at c → AllByRecursion (StepSits b) (walk format d p at c)
unfolding walk
walk_sits b zero p at c sits = (sits, tt)
walk_sits b (suc d) p at c sits = (sits, go (opens p c.id (take 4 c.body)) (λ q at c h. walk_sits b d q at c h))
  where
    go : (o : Option Place) → ((q : Place) (at : ℕ) (c : Chunk) → Sits b at c → AllByRecursion (StepSits b) (walk format d q at c)) → AllByRecursion (StepSits b) (walk_at format (walk format d) at c o)
    go None again = tt
    go (Some q) again =
        let k = kids format q c in
        let start : body_at at c + 0 ≡ body_at at c = omega arith in
        all_join (StepSits b) (along (walk format d q) (body_at at c + 0) k.chunks) _ (rw start (along_sits b (walk format d q) (again q) (body_at at c) k.chunks (inner_sit inside b at c sits))) (tt, tt)
