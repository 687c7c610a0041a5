-- What is known of atoms that were read.
use Rattle.std.proofs.Common.{◌≡◌, ℕ, ◌+◌, ◌^◌, ◌<◌, ◌≤◌, Bool, true, false, ltb, eqb, List, [], ◌∷◌, ◌++◌, length, take, drop, refl, sym, ap, subst, ◌∙◌, append_assoc, arith, inl, inr}
use Rattle.std.specs.Int.{w32, w64, from_be_bytes}
use Rattle.std.specs.Prelude.{◌⊎◌}
use Rattle.std.specs.List.{AllByRecursion}
use Rattle.std.proofs.lemmas.Bool.{ltb-false}
use Rattle.std.proofs.lemmas.List.{length-append, length-take, length-drop, nil_from_length, append-nil}
use Rattle.container_model.specs.Chunk.{Form, short, long, to_end, pad_len, header_bytes, Chunk, spell, spell_all, Header, too_short, no_header, past_end, full_header, Stands, Reads, Head, PadStands}
use Rattle.container_model.specs.Sizes.{Level, top, inside, user, kind_at, atom_zero, atom_short, atom_long, atom_wide, atom_by, atom_ahead, atom_front}
use Rattle.container_model.proofs.Codec.{IsBytes, IsBytes-behind}
use Rattle.container_model.proofs.Moved.{atom_moves, short_number, long_number, end_number}

-- what an atom's header says beside the size: it has no pad, the state stays, and an atom to the end goes to the end
abbrev pub AtomForm : Form → Type 0
AtomForm form = (form ≡ short) ⊎ ((form ≡ long) ⊎ (form ≡ to_end))

abbrev Told : Level → Header Level → Type 0
Told s too_short = Unit {0}
Told s no_header = Unit {0}
Told s past_end = Unit {0}
Told s (full_header form id n after next) = (next ≡ s) × (pad_len form n ≡ 0) × (form ≡ to_end → (s ≡ top) × (n ≡ length after)) × (length id ≡ 4) × (AtomForm form)

module _ (b : List ℕ) (room : 8 ≤ length b) where
  kind_len : length (kind_at b) ≡ 4
  kind_len = omega (arith, length-take 4 (drop 4 b), length-drop 4 b)

  told_short : (s : Level) (n : ℕ) (t : Bool) → Told s (atom_short s b n t)
  told_short s n true = tt
  told_short s n false = (refl, refl, λ e. absurd cc, kind_len, inl refl)

  told_long : (s : Level) (n : ℕ) (t : Bool) → Told s (atom_long s b n t)
  told_long s n true = tt
  told_long s n false = (refl, refl, λ e. absurd cc, kind_len, inr (inl refl))

  told_wide : (s : Level) (t : Bool) → Told s (atom_wide s b t)
  told_wide s true = tt
  told_wide s false = told_long s (from_be_bytes w64 (take 8 (drop 8 b))) (ltb (from_be_bytes w64 (take 8 (drop 8 b))) 16)

  told_zero : (s : Level) → Told s (atom_zero s b)
  told_zero top = (refl, refl, λ e. (refl, sym (length-drop 8 b)), kind_len, inr (inr refl))
  told_zero inside = tt
  told_zero user = tt

  told_by : (s : Level) (n : ℕ) (t u : Bool) → Told s (atom_by s b n t u)
  told_by s n true u = told_wide s (ltb (length b) 16)
  told_by s n false true = told_zero s
  told_by s n false false = told_short s n (ltb n 8)

told : (b : List ℕ) (s : Level) → Told s (atom_front s b)
told b s = go (ltb (length b) 8) refl
  where
    go : (t : Bool) → ltb (length b) 8 ≡ t → Told s (atom_ahead s b t)
    go true e = tt
    go false e = told_by b (ltb-false _ _ e) s (from_be_bytes w32 (take 4 b)) (eqb (from_be_bytes w32 (take 4 b)) 1) (eqb (from_be_bytes w32 (take 4 b)) 0)

pub told_of : (s next : Level) (b id after : List ℕ) (form : Form) (n : ℕ) → atom_front s b ≡ full_header form id n after next → (next ≡ s) × (pad_len form n ≡ 0) × (form ≡ to_end → (s ≡ top) × (n ≡ length after)) × (length id ≡ 4) × (AtomForm form)
told_of s next b id after form n e = subst (Told s) e (told b s)

-- An atom whose header is read whatever follows it, and that has no pad.
pub record Atom (s : Level) (c : Chunk) : Type 0 where
  pub head : Head atom_front s s c
  pub no_pad : c.pad ≡ []
  pub pad_none : pad_len c.form (length c.body) ≡ 0
  pub id_len : length c.id ≡ 4
  pub short_or_long : (c.form ≡ short) ⊎ (c.form ≡ long)

pad_is_nil : (form : Form) (n : ℕ) (pad more : List ℕ) → pad_len form n ≡ 0 → PadStands form n pad more → pad ≡ []
pad_is_nil form n pad more z (inl e) = nil_from_length pad (omega arith)
pad_is_nil form n pad more z (inr h) = nil_from_length pad (omega (arith, h.0))

-- an atom that something follows isn't one to the end
atom_stands : (s next : Level) (c : Chunk) (more : List ℕ) → IsBytes (spell c ++ more) → Stands atom_front s next c more → (c.form ≡ to_end → ⊥) → Atom s c
atom_stands s next c more bytes h n =
    let t = told_of s next (spell c ++ more) c.id (c.body ++ (c.pad ++ more)) c.form (length c.body) h.header_read in
    record {
      head = λ after. subst (λ (x : Level). atom_front s (header_bytes c.form c.id (length c.body) ++ after) ≡ full_header c.form c.id (length c.body) after x) t.0 (atom_moves s next (spell c ++ more) (c.body ++ (c.pad ++ more)) after c.id c.form (length c.body) bytes h.header_read (λ e. absurd (n e)));
      no_pad = pad_is_nil c.form (length c.body) c.pad more t.1 h.padded;
      pad_none = t.1;
      id_len = t.3;
      short_or_long = not_end c.form t.4 n;
    }
  where
    not_end : (form : Form) → AtomForm form → (form ≡ to_end → ⊥) → (form ≡ short) ⊎ (form ≡ long)
    not_end form (inl e) n = inl e
    not_end form (inr (inl e)) n = inr e
    not_end form (inr (inr e)) n = absurd (n e)

-- the atoms that were read inside another one, and the bytes behind them
pub atoms_read : (s : Level) (cs : List Chunk) (left : List ℕ) → (s ≡ top → ⊥) → IsBytes (spell_all cs ++ left) → Reads atom_front s cs left → AllByRecursion (Atom s) cs × (atom_front s left ≡ too_short)
atoms_read s [] left n bytes r = (tt, r)
atoms_read s (c ∷ cs) left n bytes r =
    let more = spell_all cs ++ left in
    let b : IsBytes (spell c ++ more) = rw (append_assoc (spell c) (spell_all cs) left) at bytes in
    let t = told_of s r.0 (spell c ++ more) c.id (c.body ++ (c.pad ++ more)) c.form (length c.body) r.1.header_read in
    let rest : Reads atom_front s cs left = subst (λ (x : Level). Reads atom_front x cs left) t.0 r.2 in
    let again = atoms_read s cs left n (IsBytes-behind (spell c) more b) rest in
    ((atom_stands s r.0 c more b r.1 (λ e. n (t.2 e).0), again.0), again.1)

-- atoms before another one, where something stands between
pub atoms_before : (a : List Chunk) (c : Chunk) (b : List Chunk) (left : List ℕ) → IsBytes (spell_all (a ++ c ∷ b) ++ left) → Reads atom_front top (a ++ c ∷ b) left
    → AllByRecursion (Atom top) a × Reads atom_front top (c ∷ b) left × IsBytes (spell_all (c ∷ b) ++ left)
atoms_before [] c b left bytes r = (tt, r, bytes)
atoms_before (d ∷ a) c b left bytes r =
    let cs = a ++ c ∷ b in
    let more = spell_all cs ++ left in
    let y : IsBytes (spell d ++ more) = rw (append_assoc (spell d) (spell_all cs) left) at bytes in
    let t = told_of top r.0 (spell d ++ more) d.id (d.body ++ (d.pad ++ more)) d.form (length d.body) r.1.header_read in
    let rest : Reads atom_front top cs left = subst (λ (x : Level). Reads atom_front x cs left) t.0 r.2 in
    let again = atoms_before a c b left (IsBytes-behind (spell d) more y) rest in
    let some : (d.form ≡ to_end → ⊥) = λ e. let all : length d.body ≡ length (d.body ++ (d.pad ++ more)) = (t.2 e).1 in some_behind a c b left (omega (arith, all, length-append d.body (d.pad ++ more), length-append d.pad more)) in
    ((atom_stands top r.0 d more y r.1 some, again.0), again.1, again.2)
  where
    some_behind : (a : List Chunk) (c : Chunk) (b : List Chunk) (left : List ℕ) → length (spell_all (a ++ c ∷ b) ++ left) ≡ 0 → ⊥
    some_behind a c b left e = omega (arith, e, length-append (spell_all (a ++ c ∷ b)) left, Rattle.container_model.proofs.Codec.as_many (a ++ c ∷ b), length-append a (c ∷ b))

-- atoms of which each is read whatever follows are read again
pub atoms_again : (s : Level) (cs : List Chunk) (left : List ℕ) → AllByRecursion (Atom s) cs → atom_front s left ≡ too_short → Reads atom_front s cs left
atoms_again s [] left h r = r
atoms_again s (c ∷ cs) left h r = (s, atom_read s c (spell_all cs ++ left) h.0, atoms_again s cs left h.1 r)
  where
    atom_read : (s : Level) (c : Chunk) (more : List ℕ) → Atom s c → Stands atom_front s s c more
    atom_read s c more h =
        let split : spell c ++ more ≡ header_bytes c.form c.id (length c.body) ++ (c.body ++ (c.pad ++ more)) = simp append_assoc in
        record { header_read = ap (atom_front s) split ∙ h.head (c.body ++ (c.pad ++ more)); padded = inl (rw (h.no_pad, h.pad_none) refl) }

-- the same before other atoms
pub atoms_and : (s : Level) (a b : List Chunk) (left : List ℕ) → AllByRecursion (Atom s) a → Reads atom_front s b left → Reads atom_front s (a ++ b) left
atoms_and s [] b left h r = r
atoms_and s (c ∷ a) b left h r =
    let more = spell_all (a ++ b) ++ left in
    let split : spell c ++ more ≡ header_bytes c.form c.id (length c.body) ++ (c.body ++ (c.pad ++ more)) = simp append_assoc in
    let one : Stands atom_front s s c more = record { header_read = ap (atom_front s) split ∙ h.0.head (c.body ++ (c.pad ++ more)); padded = inl (rw (h.0.no_pad, h.0.pad_none) refl) } in
    (s, one, atoms_and s a b left h.1 r)

-- an atom of another size
pub atom_sized : (s : Level) (c : Chunk) (body : List ℕ) → Atom s c → length body + 16 < 2 ^ 32 → Atom s (record c { body = body })
atom_sized s c body h lt = record { head = head h.short_or_long; no_pad = h.no_pad; pad_none = none h.short_or_long; id_len = h.id_len; short_or_long = h.short_or_long }
  where
    head : (c.form ≡ short) ⊎ (c.form ≡ long) → Head atom_front s s (record c { body = body })
    head (inl e) after = rw e (short_number s c.id (length body) after h.id_len (omega arith))
    head (inr e) after = rw e (long_number s c.id (length body) after h.id_len (omega arith))

    none : (c.form ≡ short) ⊎ (c.form ≡ long) → pad_len c.form (length body) ≡ 0
    none (inl e) = rw e refl
    none (inr e) = rw e refl

-- an atom of the file that gets another size, and other atoms behind it where it isn't one to the end
pub atom_stands_sized : (c : Chunk) (more body other : List ℕ) → Stands atom_front top top c more → length body + 16 < 2 ^ 32 → (c.form ≡ to_end → other ≡ []) → Stands atom_front top top (record c { body = body }) other
atom_stands_sized c more body other h lt last =
    let t = told_of top top (spell c ++ more) c.id (c.body ++ (c.pad ++ more)) c.form (length c.body) h.header_read in
    let nil = pad_is_nil c.form (length c.body) c.pad more t.1 h.padded in
    let split : spell (record c { body = body }) ++ other ≡ header_bytes c.form c.id (length body) ++ (body ++ (c.pad ++ other)) = simp append_assoc in
    record { header_read = ap (atom_front top) split ∙ head t.4 t.3 nil; padded = inl (rw nil (sym (none t.4))) }
  where
    head : AtomForm c.form → length c.id ≡ 4 → c.pad ≡ [] → atom_front top (header_bytes c.form c.id (length body) ++ (body ++ (c.pad ++ other))) ≡ full_header c.form c.id (length body) (body ++ (c.pad ++ other)) top
    head (inl e) l nil = rw e (short_number top c.id (length body) (body ++ (c.pad ++ other)) l (omega arith))
    head (inr (inl e)) l nil = rw e (long_number top c.id (length body) (body ++ (c.pad ++ other)) l (omega arith))
    head (inr (inr e)) l nil =
        let o : other ≡ [] = last e in
        let all : body ++ (c.pad ++ other) ≡ body = rw (nil, o) (append-nil body) in
        rw (all, e) (end_number c.id body l)

    none : AtomForm c.form → pad_len c.form (length body) ≡ 0
    none (inl e) = rw e refl
    none (inr (inl e)) = rw e refl
    none (inr (inr e)) = rw e refl

-- what is behind an atom of the file
pub atom_behind : (c : Chunk) (cs : List Chunk) (left : List ℕ) → IsBytes (spell_all (c ∷ cs) ++ left) → Reads atom_front top (c ∷ cs) left
    → Stands atom_front top top c (spell_all cs ++ left) × Reads atom_front top cs left × (c.pad ≡ []) × (c.form ≡ to_end → spell_all cs ++ left ≡ [])
atom_behind c cs left bytes r =
    let more = spell_all cs ++ left in
    let t = told_of top r.0 (spell c ++ more) c.id (c.body ++ (c.pad ++ more)) c.form (length c.body) r.1.header_read in (
      subst (λ (x : Level). Stands atom_front top x c more) t.0 r.1,
      subst (λ (x : Level). Reads atom_front x cs left) t.0 r.2,
      pad_is_nil c.form (length c.body) c.pad more t.1 r.1.padded,
      λ e. nil_from_length more (omega (arith, (t.2 e).1, length-append c.body (c.pad ++ more), length-append c.pad more)),
    )
