-- Ranges that are copied: what stands there, and how places in them compare. Tables of places are relocated by these laws.
use Rattle.std.proofs.Common.{◌≡◌, ℕ, ◌+◌, ◌-◌, ◌<◌, ◌≤◌, leb, ltb, eqb, List, length, sym, ap, ◌∙◌, arith, inl, inr}
use Rattle.std.specs.Prelude.{◌⊎◌}
use Rattle.std.proofs.lemmas.Bool.{le-leb, lt-leb, le-ltb, lt-ltb, ne_eqb, eq-eqb, cases_lt}
use Rattle.container_model.specs.Written.{slice}
use Rattle.container_model.proofs.Written.{slice_slice}

-- Places that are no place of a span keep their order.
abbrev pub Orders : (ℕ → ℕ) → (ℕ → Type 0) → Type 0
Orders f Ok = (p q : ℕ) → Ok p → Ok q → p < q → f p < f q

-- A range of places moves as one.
abbrev pub Rigid : (ℕ → ℕ) → (ℕ → Type 0) → ℕ → ℕ → Type 0
Rigid f Ok p len = (i : ℕ) → i < len → Ok (p + i) × (f (p + i) ≡ f p + i)

-- A range of o stands in n where its place moves.
pub record Stays (o n : List ℕ) (f : ℕ → ℕ) (Ok : ℕ → Type 0) (p len : ℕ) : Type 0 where
  pub lies : p + len ≤ length o
  pub same : slice n (f p) len ≡ slice o p len
  pub rigid : Rigid f Ok p len

pub rigid_part : (f : ℕ → ℕ) (Ok : ℕ → Type 0) (p len i k : ℕ) → i + k ≤ len → i < len → Rigid f Ok p len → Rigid f Ok (p + i) k
rigid_part f Ok p len i k h l r j lt =
    let e : (p + i) + j ≡ p + (i + j) = omega arith in
    let one = r (i + j) (omega arith) in
    let two = r i l in
    (rw e one.0, ap f e ∙ one.1 ∙ omega (arith, two.1))

pub stays_part : (o n : List ℕ) (f : ℕ → ℕ) (Ok : ℕ → Type 0) (p len i k : ℕ) → i + k ≤ len → i < len → Stays o n f Ok p len → Stays o n f Ok (p + i) k
stays_part o n f Ok p len i k h l s =
    record {
      lies = omega (arith, s.lies);
      same = ap (λ (q : ℕ). slice n q k) (s.rigid i l).1 ∙ sym (slice_slice n (f p) len i k h) ∙ ap (λ (x : List ℕ). slice x i k) s.same ∙ slice_slice o p len i k h;
      rigid = rigid_part f Ok p len i k h l s.rigid;
    }

module _ (f : ℕ → ℕ) (Ok : ℕ → Type 0) (order : Orders f Ok) where
  pub lt_moves : (p q : ℕ) → Ok p → Ok q → ltb (f p) (f q) ≡ ltb p q
  lt_moves p q a b = go (cases_lt p q)
    where
      go : (p < q) ⊎ (q ≤ p) → ltb (f p) (f q) ≡ ltb p q
      go (inl h) = lt-ltb (f p) (f q) (order p q a b h) ∙ sym (lt-ltb p q h)
      go (inr h) = le-ltb (f p) (f q) (low (cases_lt q p)) ∙ sym (le-ltb p q h)
        where
          low : (q < p) ⊎ (p ≤ q) → f q ≤ f p
          low (inl g) = omega (arith, order q p b a g)
          low (inr g) = let e : p ≡ q = omega arith in omega (arith, ap f e)

  pub eq_moves : (p q : ℕ) → Ok p → Ok q → eqb (f p) (f q) ≡ eqb p q
  eq_moves p q a b = go (cases_lt p q) (cases_lt q p)
    where
      go : (p < q) ⊎ (q ≤ p) → (q < p) ⊎ (p ≤ q) → eqb (f p) (f q) ≡ eqb p q
      go (inl h) g = ne_eqb (f p) (f q) (λ e. omega (arith, order p q a b h)) ∙ sym (ne_eqb p q (λ e. omega arith))
      go (inr h) (inl g) = ne_eqb (f p) (f q) (λ e. omega (arith, order q p b a g)) ∙ sym (ne_eqb p q (λ e. omega arith))
      go (inr h) (inr g) = let e : p ≡ q = omega arith in eq-eqb (f p) (f q) (ap f e) ∙ sym (eq-eqb p q e)

  -- a range ends before a place
  pub end_moves : (p len q : ℕ) → 0 < len → Rigid f Ok p len → Ok q → leb (f p + len) (f q) ≡ leb (p + len) q
  end_moves p len q h r b = go (cases_lt (p + (len - 1)) q)
    where
      last : Ok (p + (len - 1)) × (f (p + (len - 1)) ≡ f p + (len - 1))
      last = r (len - 1) (omega arith)

      go : (p + (len - 1) < q) ⊎ (q ≤ p + (len - 1)) → leb (f p + len) (f q) ≡ leb (p + len) q
      go (inl g) = le-leb (f p + len) (f q) (omega (arith, order (p + (len - 1)) q last.0 b g, last.1)) ∙ sym (le-leb (p + len) q (omega arith))
      go (inr g) = lt-leb (f p + len) (f q) (omega (arith, low (cases_lt q (p + (len - 1))), last.1)) ∙ sym (lt-leb (p + len) q (omega arith))
        where
          low : (q < p + (len - 1)) ⊎ (p + (len - 1) ≤ q) → f q ≤ f (p + (len - 1))
          low (inl k) = omega (arith, order q (p + (len - 1)) b last.0 k)
          low (inr k) = let e : q ≡ p + (len - 1) = omega arith in omega (arith, ap f e)
