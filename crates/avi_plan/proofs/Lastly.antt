-- The last change of a stream's name.
use Rattle.std.proofs.Common.{◌≡◌, ◌∙◌, ℕ, ◌+◌, ◌<◌, Bool, true, false, cond, eqb, List, [], ◌∷◌, ◌++◌, length, take, drop, get_or, refl, sym, ap}
use Rattle.std.specs.Prelude.{◌||◌}
use Rattle.std.proofs.lemmas.List.{take-append-drop}
use Rattle.container_model.specs.Items.{listed}
use Rattle.unit_plan.proofs.Spans.{next_item}
use Rattle.avi_model.specs.Named.{is_named, names_after}
use Rattle.avi_plan.specs.Streams.{told}
use Rattle.avi_plan.specs.declared.streams.StreamName.{StreamName}

-- none of some changes is of a stream
none_named : (vs : List StreamName) (n : ℕ) (ws : List (List ℕ)) → is_named (told vs) n ≡ false → names_after (told vs) n ws ≡ ws
none_named [] n ws h = refl
none_named (v ∷ vs) n ws h = go (eqb v.stream n) h (λ k. none_named vs n ws k)
  where
    go : (t : Bool) → (t || is_named (told vs) n) ≡ false → (is_named (told vs) n ≡ false → names_after (told vs) n ws ≡ ws) → names_after (told vs) n (cond t (listed v.body) ws) ≡ ws
    go true h again = absurd cc
    go false h again = again h

some_named : (us vs : List StreamName) (x : StreamName) (n : ℕ) → eqb x.stream n ≡ true → is_named (told (us ++ x ∷ vs)) n ≡ true
some_named [] vs x n e = ap (λ (t : Bool). t || is_named (told vs) n) e
some_named (u ∷ us) vs x n e = go (eqb u.stream n) (some_named us vs x n e)
  where
    go : (t : Bool) → is_named (told (us ++ x ∷ vs)) n ≡ true → (t || is_named (told (us ++ x ∷ vs)) n) ≡ true
    go true again = refl
    go false again = again

last_counts : (us vs : List StreamName) (x : StreamName) (n : ℕ) (ws : List (List ℕ)) → eqb x.stream n ≡ true → is_named (told vs) n ≡ false → names_after (told (us ++ x ∷ vs)) n ws ≡ listed x.body
last_counts [] vs x n ws e h = ap (λ (t : Bool). names_after (told vs) n (cond t (listed x.body) ws)) e ∙ none_named vs n (listed x.body) h
last_counts (u ∷ us) vs x n ws e h = last_counts us vs x n (cond (eqb u.stream n) (listed u.body) ws) e h

pub last_named : (names : List StreamName) (i n : ℕ) (x : StreamName) → i < length names → x ≡ get_or names i x → eqb x.stream n ≡ true → is_named (told (drop (i + 1) names)) n ≡ false
    → (is_named (told names) n ≡ true) × (names_after (told names) n [] ≡ listed x.body)
last_named names i n x lt is e h =
    let parts : names ≡ take i names ++ (x ∷ drop (i + 1) names) = sym (take-append-drop i names) ∙ ap (λ (vs : List StreamName). take i names ++ vs) (next_item names i x lt is) in
    (ap (λ (xs : List StreamName). is_named (told xs) n) parts ∙ some_named (take i names) (drop (i + 1) names) x n e, ap (λ (xs : List StreamName). names_after (told xs) n []) parts ∙ last_counts (take i names) (drop (i + 1) names) x n [] e h)
