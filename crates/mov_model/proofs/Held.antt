-- Where the atom that holds a place stands after an edit.
use Rattle.std.proofs.Common.{Bool, List, None, Option, Some, [], ap, append_assoc, arith, cond, drop, false, inl, inr, leb, length, refl, sym, take, true, ℕ, ◌++◌, ◌+◌, ◌-◌, ◌<◌, ◌∙◌, ◌∷◌, ◌≡◌, ◌≤◌}
use Rattle.std.specs.Prelude.{◌&&◌, ◌⊎◌}
use Rattle.std.proofs.lemmas.Bool.{cases_lt, le-ltb, leb-true, lt-ltb}
use Rattle.std.proofs.lemmas.List.{drop-append-le, drop_all, length-append, take_at}
use Rattle.std.specs.List.{AllByRecursion}
use Rattle.container_model.proofs.Units.{drop_past}
use Rattle.container_model.specs.Chunk.{Chunk, header_bytes, spell, spell_all}
use Rattle.mov_model.specs.Pieces.{head_length, held, held_here, is_mdat, next_number, tail_of}

-- the number after some atoms
abbrev pub numbered : ℕ → List Chunk → ℕ
numbered k [] = k
numbered k (c ∷ cs) = numbered (next_number c k) cs

held_first : (k p : ℕ) (c : Chunk) (cs : List Chunk) → p < length (spell c) → held k p (c ∷ cs) ≡ held_here k p c
held_first k p c cs lt = rw (lt-ltb p (length (spell c)) lt) refl

pub held_next : (k p : ℕ) (c : Chunk) (cs : List Chunk) → length (spell c) ≤ p → held k p (c ∷ cs) ≡ held (next_number c k) (p - length (spell c)) cs
held_next k p c cs le = rw (le-ltb p (length (spell c)) le) refl

-- a place in the first atoms is held as if these were all
pub held_before : (k p : ℕ) (a b d : List Chunk) → p < length (spell_all a) → held k p (a ++ b) ≡ held k p (a ++ d)
held_before k p [] b d lt = absurd (omega arith)
held_before k p (c ∷ a) b d lt = go (cases_lt p (length (spell c))) (λ h. held_before (next_number c k) (p - length (spell c)) a b d h)
  where
    go : (p < length (spell c)) ⊎ (length (spell c) ≤ p) → (p - length (spell c) < length (spell_all a) → held (next_number c k) (p - length (spell c)) (a ++ b) ≡ held (next_number c k) (p - length (spell c)) (a ++ d))
        → held k p (c ∷ (a ++ b)) ≡ held k p (c ∷ (a ++ d))
    go (inl h) again = held_first k p c (a ++ b) h ∙ sym (held_first k p c (a ++ d) h)
    go (inr h) again = held_next k p c (a ++ b) h ∙ again (omega (arith, length-append (spell c) (spell_all a))) ∙ sym (held_next k p c (a ++ d) h)

-- a place behind some atoms is held by the others
pub held_past : (k p : ℕ) (a b : List Chunk) → length (spell_all a) ≤ p → held k p (a ++ b) ≡ held (numbered k a) (p - length (spell_all a)) b
held_past k p [] b le = ap (λ (q : ℕ). held k q b) (omega arith)
held_past k p (c ∷ a) b le =
    let len = length-append (spell c) (spell_all a) in
    let again = held_past (next_number c k) (p - length (spell c)) a b (omega (arith, len)) in
    let e : (p - length (spell c)) - length (spell_all a) ≡ p - length (spell c ++ spell_all a) = omega (arith, len) in
    held_next k p c (a ++ b) (omega (arith, len)) ∙ again ∙ ap (λ (q : ℕ). held (numbered (next_number c k) a) q b) e

-- ---- atoms that are no mdat hold nothing

abbrev pub NoMdat : List Chunk → Type 0
NoMdat cs = AllByRecursion (λ c. is_mdat c ≡ false) cs

pub none_numbered : (k : ℕ) (g : List Chunk) → NoMdat g → numbered k g ≡ k
none_numbered k [] n = refl
none_numbered k (c ∷ g) n = rw n.0 (none_numbered k g n.1)

pub held_skip : (k p : ℕ) (g b : List Chunk) (x : ℕ × List ℕ) → NoMdat g → held k p (g ++ b) ≡ Some x → (length (spell_all g) ≤ p) × (held k (p - length (spell_all g)) b ≡ Some x)
held_skip k p [] b x n e = let z : p - 0 ≡ p = omega arith in (omega arith, rw z e)
held_skip k p (c ∷ g) b x n e = go (cases_lt p (length (spell c))) (λ h. held_skip k (p - length (spell c)) g b x n.1 h)
  where
    go : (p < length (spell c)) ⊎ (length (spell c) ≤ p) → (held k (p - length (spell c)) (g ++ b) ≡ Some x → (length (spell_all g) ≤ p - length (spell c)) × (held k ((p - length (spell c)) - length (spell_all g)) b ≡ Some x))
        → (length (spell c ++ spell_all g) ≤ p) × (held k (p - length (spell c ++ spell_all g)) b ≡ Some x)
    go (inl h) again = let none : held k p (c ∷ (g ++ b)) ≡ None = held_first k p c (g ++ b) h ∙ rw n.0 refl in absurd cc
    go (inr h) again =
        let number : next_number c k ≡ k = rw n.0 refl in
        let here : held k (p - length (spell c)) (g ++ b) ≡ Some x = ap (λ (j : ℕ). held j (p - length (spell c)) (g ++ b)) (sym number) ∙ sym (held_next k p c (g ++ b) h) ∙ e in
        let r = again here in
        let len = length-append (spell c) (spell_all g) in
        let q : (p - length (spell c)) - length (spell_all g) ≡ p - length (spell c ++ spell_all g) = omega (arith, len) in
        (omega (arith, len, r.0), rw (← q) r.1)

-- Atoms before stay, some that are no mdat become others, and those behind move: what a place holds moves with it.
pub held_moves : (s : ℕ → ℕ) (p : ℕ) (x : ℕ × List ℕ) (a g h b : List Chunk) → NoMdat g → NoMdat h
    → (p < length (spell_all a) → s p ≡ p)
    → (length (spell_all a) + length (spell_all g) ≤ p → s p + (length (spell_all a) + length (spell_all g)) ≡ p + (length (spell_all a) + length (spell_all h)))
    → held 0 p (a ++ (g ++ b)) ≡ Some x → held 0 (s p) (a ++ (h ++ b)) ≡ Some x
held_moves s p x a g h b ng nh low high e = go (cases_lt p (length (spell_all a)))
  where
    go : (p < length (spell_all a)) ⊎ (length (spell_all a) ≤ p) → held 0 (s p) (a ++ (h ++ b)) ≡ Some x
    go (inl lt) = rw (low lt) (held_before 0 p a (h ++ b) (g ++ b) lt ∙ e)
    go (inr le) =
        let k = numbered 0 a in
        let there : held k (p - length (spell_all a)) (g ++ b) ≡ Some x = sym (held_past 0 p a (g ++ b) le) ∙ e in
        let r = held_skip k (p - length (spell_all a)) g b x ng there in
        let moved = high (omega (arith, r.0)) in
        let far : length (spell_all a) ≤ s p = omega (arith, moved, r.0) in
        let past : length (spell_all h) ≤ s p - length (spell_all a) = omega (arith, moved, r.0) in
        let same : (s p - length (spell_all a)) - length (spell_all h) ≡ (p - length (spell_all a)) - length (spell_all g) = omega (arith, moved, r.0) in
        held_past 0 (s p) a (h ++ b) far ∙ held_past k (s p - length (spell_all a)) h b past
        ∙ rw (none_numbered k h nh, same) r.1

-- ---- what is held are the file's bytes at the place

here_bytes : (k p : ℕ) (c : Chunk) (rest : List ℕ) (x : ℕ × List ℕ) → held_here k p c ≡ Some x → take (length x.1) (drop p (spell c ++ rest)) ≡ x.1
here_bytes k p c rest x e = go (is_mdat c) (leb (head_length c) p) refl e
  where
    some_is : (a b : ℕ × List ℕ) → Some a ≡ Some b → a.1 ≡ b.1
    some_is a b e = ap (λ (o : Option (ℕ × List ℕ)). tail_of o) e

    inside_body : head_length c ≤ p → take (length (drop (p - head_length c) c.body)) (drop p (spell c ++ rest)) ≡ drop (p - head_length c) c.body
    inside_body le =
        let head = header_bytes c.form c.id (length c.body) in
        let q = p - head_length c in
        let split : spell c ++ rest ≡ head ++ (c.body ++ (c.pad ++ rest)) = simp append_assoc in
        let past : drop p (spell c ++ rest) ≡ drop q (c.body ++ (c.pad ++ rest)) = ap (drop p) split ∙ drop_past head (c.body ++ (c.pad ++ rest)) p le in
        ap (take (length (drop q c.body))) past ∙ within (cases_lt (length c.body) q)
      where
        within : (length c.body < p - head_length c) ⊎ (p - head_length c ≤ length c.body)
            → take (length (drop (p - head_length c) c.body)) (drop (p - head_length c) (c.body ++ (c.pad ++ rest))) ≡ drop (p - head_length c) c.body
        within (inl lt) = let none : drop (p - head_length c) c.body ≡ [] = drop_all (p - head_length c) c.body (omega arith) in rw none refl
        within (inr le2) =
            ap (take (length (drop (p - head_length c) c.body))) (drop-append-le (p - head_length c) c.body (c.pad ++ rest) le2) ∙ take_at (drop (p - head_length c) c.body) (c.pad ++ rest) (length (drop (p - head_length c) c.body)) refl

    go : (t u : Bool) → leb (head_length c) p ≡ u → cond (t && u) (Some (k, drop (p - head_length c) c.body)) None ≡ Some x → take (length x.1) (drop p (spell c ++ rest)) ≡ x.1
    go true true l e = let same = some_is (k, drop (p - head_length c) c.body) x e in rw (← same) (inside_body (leb-true _ _ l))
    go true false l e = absurd cc
    go false u l e = absurd cc

-- A place that an mdat holds: the bytes of the file there are those of that mdat's body from there on.
pub held_bytes : (k p : ℕ) (cs : List Chunk) (left : List ℕ) (x : ℕ × List ℕ) → held k p cs ≡ Some x → take (length x.1) (drop p (spell_all cs ++ left)) ≡ x.1
held_bytes k p [] left x e = absurd cc
held_bytes k p (c ∷ cs) left x e = go (cases_lt p (length (spell c))) (λ h. held_bytes (next_number c k) (p - length (spell c)) cs left x h)
  where
    split : (spell c ++ spell_all cs) ++ left ≡ spell c ++ (spell_all cs ++ left)
    split = append_assoc (spell c) (spell_all cs) left

    go : (p < length (spell c)) ⊎ (length (spell c) ≤ p) → (held (next_number c k) (p - length (spell c)) cs ≡ Some x → take (length x.1) (drop (p - length (spell c)) (spell_all cs ++ left)) ≡ x.1)
        → take (length x.1) (drop p ((spell c ++ spell_all cs) ++ left)) ≡ x.1
    go (inl h) again = ap (λ (b : List ℕ). take (length x.1) (drop p b)) split ∙ here_bytes k p c (spell_all cs ++ left) x (sym (held_first k p c cs h) ∙ e)
    go (inr h) again =
        ap (λ (b : List ℕ). take (length x.1) (drop p b)) split ∙ ap (take (length x.1)) (drop_past (spell c) (spell_all cs ++ left) p h) ∙ again (sym (held_next k p c cs h) ∙ e)
