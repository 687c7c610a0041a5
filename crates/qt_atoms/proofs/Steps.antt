-- A header's numbers, and one step over the atoms of the bytes.
use Rattle.std.proofs.Common.{◌≡◌, ℕ, [], ◌+◌, ◌-◌, ◌<◌, ◌≤◌, Bool, true, false, ltb, eqb, List, ◌++◌, length, take, drop, refl, sym, ap, ◌∙◌, arith, length-drop, length-append}
use Rattle.std.proofs.lemmas.List.{drop-take, length-take, take-take}
use Rattle.std.proofs.lemmas.Bool.{lt-ltb, ltb-false}
use Rattle.std.specs.Int.{w32, w64, from_be_bytes, to_be_bytes}
use Rattle.std.specs.declared.option.Option.TheVariants.{Some, None}
use Rattle.container_model.specs.Chunk.{Form, header_bytes, Chunk, full_header, too_short, no_header, past_end, pad_len, behind, chunks, stopped, passes, bad_header, and_then, read}
use Rattle.container_model.specs.Sizes.{Level, top, inside, user, kind_at, atom_zero, atom_short, atom_long, atom_wide, atom_by, atom_ahead, atom_front}
use Rattle.container_model.specs.Written.{slice}
use Rattle.container_model.specs.Windows.{window}
use Rattle.container_model.proofs.Windows.{length-window, window-drop, window-take}
use Rattle.container_model.proofs.Steps.{Eats, chunks_ahead, chunks_cut, chunks_few}
use Rattle.qt_atoms.specs.declared.header.SizeForm.{SizeForm}
use Rattle.qt_atoms.specs.declared.header.SizeForm.TheVariants.{Short, Long, ToEnd}
use Rattle.qt_atoms.specs.declared.walker.AtomAt.{AtomAt}
use Rattle.qt_atoms.specs.Walk.{InOrder, Stepped, atom_in, form_of, header_len, row}
use Rattle.qt_atoms.specs.declared.header.Head.{Head}
use Rattle.qt_atoms.specs.Headers.{Begins, HasWide}

-- ---- the numbers by the bytes that are read

pub begins : (b : List ℕ) (at end : ℕ) (bytes : List ℕ) (head : Head) → end ≤ length b → at + 8 ≤ end → bytes ≡ slice b at 8
    → head.size ≡ from_be_bytes w32 (take 4 bytes) → head.kind.0 ≡ take 4 (drop 4 bytes) → Begins (window b at end) head
begins b at end bytes head fits room is s k =
    let w = window b at end in
    let front : take 8 w ≡ bytes = window-take b at end 8 (omega arith) ∙ sym is in
    let digits : take 4 w ≡ take 4 bytes = sym (take-take 4 8 w (omega arith)) ∙ ap (take 4) front in
    let letters : kind_at w ≡ take 4 (drop 4 bytes) =
    sym (take-take 4 4 (drop 4 w) (omega arith)) ∙ sym (ap (take 4) (drop-take 4 4 w)) ∙ ap (λ (x : List ℕ). take 4 (drop 4 x)) front
    in
    record { enough = omega (arith, length-window b at end fits); size = s ∙ ap (from_be_bytes w32) (sym digits); kind = k ∙ sym letters }

pub wide_read : (b : List ℕ) (at end : ℕ) (bytes : List ℕ) (n : ℕ) → end ≤ length b → at + 16 ≤ end → bytes ≡ slice b (at + 8) 8
    → n ≡ from_be_bytes w64 bytes → HasWide (window b at end) n
wide_read b at end bytes n fits room is e = λ enough.
    let w = window b at end in
    let second : take 8 (drop 8 w) ≡ bytes =
    ap (take 8) (window-drop b at end 8 fits ∙ ap (λ (i : ℕ). window b i end) (omega arith)) ∙ window-take b (at + 8) end 8 (omega arith) ∙ sym is
    in
    e ∙ ap (from_be_bytes w64) (sym second)

-- ---- each header of an atom takes bytes

zero_after : (s : Level) (b : List ℕ) (form : Form) (id after : List ℕ) (n : ℕ) (next : Level) → atom_zero s b ≡ full_header form id n after next → after ≡ drop 8 b
zero_after top b form id after n next e = cc
zero_after inside b form id after n next e = absurd cc
zero_after user b form id after n next e = absurd cc

short_after : (s : Level) (b : List ℕ) (m : ℕ) (t : Bool) (form : Form) (id after : List ℕ) (n : ℕ) (next : Level) → atom_short s b m t ≡ full_header form id n after next → after ≡ drop 8 b
short_after s b m true form id after n next e = absurd cc
short_after s b m false form id after n next e = cc

long_after : (s : Level) (b : List ℕ) (m : ℕ) (t : Bool) (form : Form) (id after : List ℕ) (n : ℕ) (next : Level) → atom_long s b m t ≡ full_header form id n after next → after ≡ drop 16 b
long_after s b m true form id after n next e = absurd cc
long_after s b m false form id after n next e = cc

wide_after : (s : Level) (b : List ℕ) (t : Bool) (form : Form) (id after : List ℕ) (n : ℕ) (next : Level) → atom_wide s b t ≡ full_header form id n after next → after ≡ drop 16 b
wide_after s b true form id after n next e = absurd cc
wide_after s b false form id after n next e = long_after s b (from_be_bytes w64 (take 8 (drop 8 b))) (ltb (from_be_bytes w64 (take 8 (drop 8 b))) 16) form id after n next e

shorter : (b after : List ℕ) (k : ℕ) → 8 ≤ length b → 0 < k → after ≡ drop k b → length after < length b
shorter b after k enough some is = omega (arith, ap length is, length-drop k b)

by_eats : (s : Level) (b : List ℕ) (m : ℕ) (t u : Bool) (form : Form) (id after : List ℕ) (n : ℕ) (next : Level) → 8 ≤ length b
    → atom_by s b m t u ≡ full_header form id n after next → length after < length b
by_eats s b m true u form id after n next enough e = shorter b after 16 enough (omega arith) (wide_after s b (ltb (length b) 16) form id after n next e)
by_eats s b m false true form id after n next enough e = shorter b after 8 enough (omega arith) (zero_after s b form id after n next e)
by_eats s b m false false form id after n next enough e = shorter b after 8 enough (omega arith) (short_after s b m (ltb m 8) form id after n next e)

pub atoms_eat : Eats atom_front
atoms_eat s next b id after form n e = go (ltb (length b) 8) refl e
  where
    go : (t : Bool) → ltb (length b) 8 ≡ t → atom_ahead s b t ≡ full_header form id n after next → length after < length b
    go true lt f = absurd cc
    go false lt f =
        let m = from_be_bytes w32 (take 4 b) in
        by_eats s b m (eqb m 1) (eqb m 0) form id after n next (ltb-false (length b) 8 lt) f

-- ---- one step

no_pad : (f : SizeForm) (n : ℕ) → pad_len (form_of f) n ≡ 0
no_pad Short n = refl
no_pad Long n = refl
no_pad ToEnd n = refl

pub header_length : (f : SizeForm) (id : List ℕ) (n : ℕ) → length id ≡ 4 → length (header_bytes (form_of f) id n) ≡ header_len f
header_length Short id n four = omega (arith, length-append (to_be_bytes w32 (n + 8)) id)
header_length Long id n four = omega (arith, length-append (to_be_bytes w32 1) (id ++ to_be_bytes w64 (n + 16)), length-append id (to_be_bytes w64 (n + 16)))
header_length ToEnd id n four = omega (arith, length-append (to_be_bytes w32 0) id)

pub few_stepped : (s : Level) (b : List ℕ) (at end : ℕ) → atom_front s (window b at end) ≡ too_short → Stepped s b at end None
few_stepped s b at end e = chunks_few atom_front atoms_eat s (window b at end) e

pub front_few : (s : Level) (b : List ℕ) (at end : ℕ) → end ≤ length b → end < at + 8 → atom_front s (window b at end) ≡ too_short
front_few s b at end fits few =
    let w = window b at end in
    rw (lt-ltb (length w) 8 (omega (arith, length-window b at end fits))) refl

pub bad_stuck : (s : Level) (b : List ℕ) (at end : ℕ) → atom_front s (window b at end) ≡ no_header → row s b at end ≡ stopped bad_header (window b at end)
unfolding chunks read
bad_stuck s b at end e = rw e refl

pub past_stuck : (s : Level) (b : List ℕ) (at end : ℕ) → atom_front s (window b at end) ≡ past_end → row s b at end ≡ stopped passes (window b at end)
unfolding chunks read
past_stuck s b at end e = rw e refl

pub cut_stuck : (s : Level) (b : List ℕ) (at end : ℕ) (f : SizeForm) (id : List ℕ) (n : ℕ) → end ≤ length b → header_len f ≤ end - at → end - at < header_len f + n
    → atom_front s (window b at end) ≡ full_header (form_of f) id n (drop (header_len f) (window b at end)) s → row s b at end ≡ stopped passes (window b at end)
cut_stuck s b at end f id n fits room gt e =
    let w = window b at end in
    chunks_cut atom_front atoms_eat s s w (form_of f) id n (drop (header_len f) w) e (omega (arith, length-drop (header_len f) w, length-window b at end fits))

abbrev atom_from : Form → List ℕ → List ℕ → List ℕ → Chunk
atom_from form id body pad = record { form = form; id = id; body = body; pad = pad }

pub stepped : (s : Level) (b : List ℕ) (at end : ℕ) (k : AtomAt) → end ≤ length b → InOrder at end k
    → atom_front s (window b at end) ≡ full_header (form_of k.form) k.kind.0 k.body.len (drop (header_len k.form) (window b at end)) s → Stepped s b at end (Some k)
stepped s b at end k fits order e =
    let w = window b at end in
    let h = header_len k.form in
    let n = k.body.len in
    let form = form_of k.form in
    let first : drop h w ≡ window b k.body.at end = window-drop b at end h fits ∙ ap (λ (i : ℕ). window b i end) (omega (arith, order.body, order.behind, order.last)) in
    let second : drop n (drop h w) ≡ window b k.next end = ap (drop n) first ∙ window-drop b k.body.at end n fits ∙ ap (λ (i : ℕ). window b i end) (omega (arith, order.behind, order.last)) in
    let third : behind form n (drop h w) ≡ window b k.next end = ap (λ (i : ℕ). drop i (drop n (drop h w))) (no_pad k.form n) ∙ second in
    let body : take n (drop h w) ≡ slice b k.body.at n = ap (take n) first ∙ window-take b k.body.at end n (omega (arith, order.behind, order.last)) in
    let pad : take (pad_len form n) (drop n (drop h w)) ≡ [] = ap (λ (i : ℕ). take i (drop n (drop h w))) (no_pad k.form n) in
    let step : row s b at end ≡ and_then (atom_in b k) (row s b k.next end) =
    chunks_ahead atom_front atoms_eat s s w form k.kind.0 n (drop h w) e (omega (arith, ap length first, length-window b k.body.at end fits, order.behind, order.last))
    ∙ ap (λ (x : List ℕ). and_then (atom_from form k.kind.0 x (take (pad_len form n) (drop n (drop h w)))) (chunks atom_front s (behind form n (drop h w)))) body
    ∙ ap (λ (x : List ℕ). and_then (atom_from form k.kind.0 (slice b k.body.at n) x) (chunks atom_front s (behind form n (drop h w)))) pad
    ∙ ap (λ (x : List ℕ). and_then (atom_in b k) (chunks atom_front s x)) third
    in
    let c = atom_in b k in
    let one = length-append (header_bytes form c.id (length c.body)) (c.body ++ c.pad) in
    let two = header_length k.form k.kind.0 (length c.body) order.letters in
    let three = length-append c.body c.pad in
    let four = length-take n (drop k.body.at b) in
    let five = length-drop k.body.at b in
    (step, omega (arith, one, two, three, four, five, order.body, order.behind, order.last))
