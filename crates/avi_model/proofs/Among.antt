-- What stands in lists: members, and chunks that stand apart.
use Rattle.std.proofs.Common.{◌≡◌, ℕ, ◌+◌, ◌≤◌, Bool, true, false, cond, List, [], ◌∷◌, ◌++◌, length, map, refl, sym, ap, subst, ◌∙◌, arith, inl, inr}
use Rattle.std.specs.Prelude.{◌⊎◌}
use Rattle.std.specs.List.{flat_map, AllByRecursion}
use Rattle.std.proofs.lemmas.List.{length-append}
use Rattle.container_model.specs.Chunk.{Chunk, spell, spell_all}
use Rattle.container_model.specs.Stood.{Stood, stood, only, first_of}
use Rattle.container_model.proofs.Copied.{bare_short}

abbrev pub Among : {X : Type 0} → X → List X → Type 0
Among x [] = ⊥
Among x (y ∷ ys) = (y ≡ x) ⊎ Among x ys

pub all_among : {X : Type 0} (P : X → Type 0) (xs : List X) → ((x : X) → Among x xs → P x) → AllByRecursion P xs
all_among P [] h = tt
all_among P (x ∷ xs) h = (h x (inl refl), all_among P xs (λ y i. h y (inr i)))

pub among_all : {X : Type 0} (P : X → Type 0) (xs : List X) → AllByRecursion P xs → (x : X) → Among x xs → P x
among_all P [] h x i = absurd i
among_all P (y ∷ xs) h x (inl e) = subst P e h.0
among_all P (y ∷ xs) h x (inr i) = among_all P xs h.1 x i

pub among_only : (p : Chunk → Bool) (xs : List Stood) (x : Stood) → Among x (only p xs) → Among x xs × (p x.chunk ≡ true)
among_only p [] x i = absurd i
among_only p (y ∷ xs) x i = go (p y.chunk) refl i (among_only p xs x)
  where
    go : (t : Bool) → p y.chunk ≡ t → Among x (cond t (y ∷ only p xs) (only p xs)) → (Among x (only p xs) → Among x xs × (p x.chunk ≡ true)) → Among x (y ∷ xs) × (p x.chunk ≡ true)
    go true e (inl i) again = (inl i, subst (λ (z : Stood). p z.chunk ≡ true) i e)
    go true e (inr i) again = let z = again i in (inr z.0, z.1)
    go false e i again = let z = again i in (inr z.0, z.1)

pub only_among : (p : Chunk → Bool) (xs : List Stood) (x : Stood) → Among x xs → p x.chunk ≡ true → Among x (only p xs)
only_among p [] x i e = absurd i
only_among p (y ∷ xs) x i e = go (p y.chunk) refl i (λ j. only_among p xs x j e)
  where
    go : (t : Bool) → p y.chunk ≡ t → Among x (y ∷ xs) → (Among x xs → Among x (only p xs)) → Among x (cond t (y ∷ only p xs) (only p xs))
    go true f (inl i) again = inl i
    go true f (inr i) again = inr (again i)
    go false f (inl i) again = let no : p x.chunk ≡ false = subst (λ (z : Stood). p z.chunk ≡ false) i f in absurd cc
    go false f (inr i) again = again i

pub among_first : (xs : List Stood) (x : Stood) → Among x (first_of xs) → Among x xs
among_first [] x i = i
among_first (y ∷ xs) x (inl i) = inl i
among_first (y ∷ xs) x (inr i) = absurd i

-- there is one first
pub first_same : (xs : List Stood) (x y : Stood) → Among x (first_of xs) → Among y (first_of xs) → x ≡ y
first_same [] x y i j = absurd i
first_same (z ∷ xs) x y (inl i) (inl j) = sym i ∙ j
first_same (z ∷ xs) x y (inl i) (inr j) = absurd j
first_same (z ∷ xs) x y (inr i) j = absurd i

pub record AmongMany (X : Type 0) (Y : Type 0) (g : X → List Y) (y : Y) (xs : List X) : Type 0 where
  pub from : X
  pub from_among : Among from xs
  pub in_it : Among y (g from)

pub among_append : {X : Type 0} (a b : List X) (x : X) → Among x (a ++ b) → Among x a ⊎ Among x b
among_append [] b x i = inr i
among_append (y ∷ a) b x (inl i) = inl (inl i)
among_append (y ∷ a) b x (inr i) = go (among_append a b x i)
  where
    go : Among x a ⊎ Among x b → Among x (y ∷ a) ⊎ Among x b
    go (inl i) = inl (inr i)
    go (inr i) = inr i

pub among_front : {X : Type 0} (a b : List X) (x : X) → Among x a → Among x (a ++ b)
among_front [] b x i = absurd i
among_front (y ∷ a) b x (inl i) = inl i
among_front (y ∷ a) b x (inr i) = inr (among_front a b x i)

pub among_back : {X : Type 0} (a b : List X) (x : X) → Among x b → Among x (a ++ b)
among_back [] b x i = i
among_back (y ∷ a) b x i = inr (among_back a b x i)

pub among_flat : {X Y : Type 0} (g : X → List Y) (xs : List X) (y : Y) → Among y (flat_map g xs) → AmongMany X Y g y xs
among_flat g [] y i = absurd i
among_flat {X} {Y} g (x ∷ xs) y i = go (among_append (g x) (flat_map g xs) y i) (λ j. among_flat g xs y j)
  where
    go : Among y (g x) ⊎ Among y (flat_map g xs) → (Among y (flat_map g xs) → AmongMany X Y g y xs) → AmongMany X Y g y (x ∷ xs)
    go (inl j) again = record { from = x; from_among = inl refl; in_it = j }
    go (inr j) again = let z = again j in record { from = z.from; from_among = inr z.from_among; in_it = z.in_it }

pub flat_among : {X Y : Type 0} (g : X → List Y) (xs : List X) (x : X) (y : Y) → Among x xs → Among y (g x) → Among y (flat_map g xs)
flat_among g [] x y i j = absurd i
flat_among {X} g (z ∷ xs) x y (inl e) j = among_front (g z) (flat_map g xs) y (subst (λ (w : X). Among y (g w)) (sym e) j)
flat_among g (z ∷ xs) x y (inr i) j = among_back (g z) (flat_map g xs) y (flat_among g xs x y i j)

pub record AmongMap (X : Type 0) (Y : Type 0) (g : X → Y) (y : Y) (xs : List X) : Type 0 where
  pub from : X
  pub from_among : Among from xs
  pub same : g from ≡ y

pub among_map : {X Y : Type 0} (g : X → Y) (xs : List X) (y : Y) → Among y (map g xs) → AmongMap X Y g y xs
among_map g [] y i = absurd i
among_map g (x ∷ xs) y (inl e) = record { from = x; from_among = inl refl; same = e }
among_map g (x ∷ xs) y (inr i) = let z = among_map g xs y i in record { from = z.from; from_among = inr z.from_among; same = z.same }

pub map_among : {X Y : Type 0} (g : X → Y) (xs : List X) (x : X) → Among x xs → Among (g x) (map g xs)
map_among g [] x i = absurd i
map_among g (y ∷ xs) x (inl e) = inl (ap g e)
map_among g (y ∷ xs) x (inr i) = inr (map_among g xs x i)

-- ---- chunks that stand in a list

abbrev pub stood_end : Stood → ℕ
stood_end x = x.at + length (spell x.chunk)

pub stood_inside : (at : ℕ) (cs : List Chunk) (x : Stood) → Among x (stood at cs) → (at ≤ x.at) × (stood_end x ≤ at + length (spell_all cs))
stood_inside at [] x i = absurd i
stood_inside at (c ∷ cs) x (inl e) =
    let len = length-append (spell c) (spell_all cs) in
    subst (λ (y : Stood). (at ≤ y.at) × (stood_end y ≤ at + length (spell_all (c ∷ cs)))) e (omega arith, omega (arith, len, bare_short c))
stood_inside at (c ∷ cs) x (inr i) =
    let z = stood_inside (at + length (spell c)) cs x i in
    let len = length-append (spell c) (spell_all cs) in
    (omega (arith, z.0), omega (arith, z.1, len))

abbrev pub Disjoint : Stood → Stood → Type 0
Disjoint x y = (stood_end x ≤ y.at) ⊎ (stood_end y ≤ x.at)

-- two chunks of a list are one, or stand apart
pub stood_apart : (at : ℕ) (cs : List Chunk) (x y : Stood) → Among x (stood at cs) → Among y (stood at cs) → (x ≡ y) ⊎ Disjoint x y
stood_apart at [] x y i j = absurd i
stood_apart at (c ∷ cs) x y (inl e) (inl f) = inl (sym e ∙ f)
stood_apart at (c ∷ cs) x y (inl e) (inr j) =
    let z = stood_inside (at + length (spell c)) cs y j in
    inr (inl (subst (λ (w : Stood). stood_end w ≤ y.at) e (omega (arith, z.0, bare_short c))))
stood_apart at (c ∷ cs) x y (inr i) (inl f) =
    let z = stood_inside (at + length (spell c)) cs x i in
    inr (inr (subst (λ (w : Stood). stood_end w ≤ x.at) f (omega (arith, z.0, bare_short c))))
stood_apart at (c ∷ cs) x y (inr i) (inr j) = stood_apart (at + length (spell c)) cs x y i j
