-- The list of a stream with another name: the name is the one that was set, and all else stands where it stood.
use Rattle.std.proofs.Common.{◌≡◌, ℕ, suc, Bool, true, false, cond, List, [], ◌∷◌, ◌++◌, map, refl, sym, ap, subst, ◌∙◌}
use Rattle.std.specs.Prelude.{◌||◌, filter, codes}
use Rattle.std.specs.Str.{bytes_eq}
use Rattle.std.specs.List.{flat_map, list_any}
use Rattle.std.proofs.lemmas.List.{append-nil}
use Rattle.std.proofs.lemmas.List.Concat.{flat_map-append}
use Rattle.container_model.specs.Chunk.{Chunk}
use Rattle.container_model.specs.Deep.{Token, leaf, mark}
use Rattle.container_model.specs.Items.{has_mark, settled_marks}
use Rattle.container_model.specs.Units.{Cell, kept, gap, edited, live}
use Rattle.container_model.proofs.Items.{same_true}
use Rattle.carrier_model.specs.Cells.{change, leave, changed, settle, settle_cells}
use Rattle.carrier_model.specs.Info.{is_padding}
use Rattle.carrier_model.specs.Names.{is_name, is_head_id, is_head, some_head, put_name, nth_name, put_names, name_cells}
use Rattle.carrier_model.proofs.Cells.{live_acted}
use Rattle.avi_model.specs.Heads.{name_token, is_head_token, put_name_marks, name_marks, place_name}
use Rattle.avi_model.specs.Named.{cell_by, cell_of}
use Rattle.avi_model.proofs.Edit.{view_cells}
use Rattle.avi_model.proofs.Respelled.{made_names}
use Rattle.avi_model.proofs.Types.{padding_id}

-- ---- the bodies of names

abbrev pub name_body : Chunk → List (List ℕ)
name_body c = cond (is_name c) (c.body ∷ []) []

pub bodies_seen : (cs : List Chunk) → map (λ (c : Chunk). c.body) (filter is_name cs) ≡ flat_map name_body cs
bodies_seen [] = refl
bodies_seen (c ∷ cs) = go (is_name c) (bodies_seen cs)
  where
    go : (t : Bool) → map (λ (c : Chunk). c.body) (filter is_name cs) ≡ flat_map name_body cs → map (λ (c : Chunk). c.body) (cond t (c ∷ filter is_name cs) (filter is_name cs)) ≡ cond t (c.body ∷ []) [] ++ flat_map name_body cs
    go true g = ap (λ (x : List (List ℕ)). c.body ∷ x) g
    go false g = g

-- behind the first name none is left
later_gone : (new : List Chunk) (n : ℕ) (cs : List Chunk) → flat_map name_body (settle is_name (nth_name new) (suc n) cs) ≡ []
later_gone new n [] = refl
later_gone new n (c ∷ cs) = go (is_name c) refl (λ k. later_gone new k cs)
  where
    go : (t : Bool) → is_name c ≡ t → ((k : ℕ) → flat_map name_body (settle is_name (nth_name new) (suc k) cs) ≡ []) → flat_map name_body (changed (cond t (nth_name new (suc n) c) leave) c ++ settle is_name (nth_name new) (cond t (suc (suc n)) (suc n)) cs) ≡ []
    go true e again = again (suc n)
    go false e again = ap (λ (b : Bool). cond b (c.body ∷ []) [] ++ flat_map name_body (settle is_name (nth_name new) (suc n) cs)) e ∙ again n

settled_names : (new cs : List Chunk) → list_any is_name cs ≡ true → flat_map name_body (settle is_name (nth_name new) 0 cs) ≡ flat_map name_body new
settled_names new [] h = absurd cc
settled_names new (c ∷ cs) h = go (is_name c) refl h (λ g. settled_names new cs g)
  where
    go : (t : Bool) → is_name c ≡ t → (t || list_any is_name cs) ≡ true → (list_any is_name cs ≡ true → flat_map name_body (settle is_name (nth_name new) 0 cs) ≡ flat_map name_body new) → flat_map name_body (changed (cond t (nth_name new 0 c) leave) c ++ settle is_name (nth_name new) (cond t 1 0) cs) ≡ flat_map name_body new
    go true e h again = flat_map-append name_body new (settle is_name (nth_name new) 1 cs) ∙ ap (λ (x : List (List ℕ)). flat_map name_body new ++ x) (later_gone new 0 cs) ∙ append-nil (flat_map name_body new)
    go false e h again = ap (λ (b : Bool). cond b (c.body ∷ []) [] ++ flat_map name_body (settle is_name (nth_name new) 0 cs)) e ∙ again h

none_named : (cs : List Chunk) → list_any is_name cs ≡ false → flat_map name_body cs ≡ []
none_named [] h = refl
none_named (c ∷ cs) h = go (is_name c) h (λ g. none_named cs g)
  where
    go : (t : Bool) → (t || list_any is_name cs) ≡ false → (list_any is_name cs ≡ false → flat_map name_body cs ≡ []) → cond t (c.body ∷ []) [] ++ flat_map name_body cs ≡ []
    go true h again = absurd cc
    go false h again = again h

none_left : {X : Type 0} (a b : List X) → a ++ b ≡ [] → (a ≡ []) × (b ≡ [])
none_left [] b h = (refl, h)
none_left (x ∷ a) b h = absurd cc

put_names_seen : (new : List Chunk) (xs : List Cell) → flat_map name_body (flat_map live xs) ≡ [] → flat_map name_body (flat_map live (put_name (edited [] new) xs)) ≡ flat_map name_body new
put_names_seen new [] h = ap (flat_map name_body) (append-nil new)
put_names_seen new (x ∷ xs) h = go (some_head (x ∷ xs)) (λ g. put_names_seen new xs g)
  where
    parts : (flat_map name_body (live x) ≡ []) × (flat_map name_body (flat_map live xs) ≡ [])
    parts = none_left (flat_map name_body (live x)) (flat_map name_body (flat_map live xs)) (sym (flat_map-append name_body (live x) (flat_map live xs)) ∙ h)

    go : (t : Bool) → (flat_map name_body (flat_map live xs) ≡ [] → flat_map name_body (flat_map live (put_name (edited [] new) xs)) ≡ flat_map name_body new) → flat_map name_body (flat_map live (cond t (x ∷ put_name (edited [] new) xs) (edited [] new ∷ (x ∷ xs)))) ≡ flat_map name_body new
    go true again =
        flat_map-append name_body (live x) (flat_map live (put_name (edited [] new) xs)) ∙ ap (λ (y : List (List ℕ)). y ++ flat_map name_body (flat_map live (put_name (edited [] new) xs))) parts.0 ∙ again parts.1
    go false again = flat_map-append name_body new (live x ++ flat_map live xs) ∙ ap (λ (y : List (List ℕ)). flat_map name_body new ++ y) h ∙ append-nil (flat_map name_body new)

made_bodies : (vs : List (List ℕ)) → flat_map name_body (made_names vs) ≡ vs
made_bodies [] = refl
made_bodies (v ∷ vs) = ap (λ (x : List (List ℕ)). v ∷ x) (made_bodies vs)

-- The names of a list are then those that were set.
pub names_set : (vs : List (List ℕ)) (xs : List Cell) → flat_map name_body (flat_map live (name_cells (made_names vs) xs)) ≡ vs
names_set vs xs = go (list_any is_name (flat_map live xs)) refl vs ∙ refl
  where
    put : list_any is_name (flat_map live xs) ≡ false → (vs : List (List ℕ)) → flat_map name_body (flat_map live (put_names (made_names vs) xs)) ≡ vs
    put e [] = none_named (flat_map live xs) e
    put e (v ∷ vs) = put_names_seen (made_names (v ∷ vs)) xs (none_named (flat_map live xs) e) ∙ made_bodies (v ∷ vs)

    go : (t : Bool) → list_any is_name (flat_map live xs) ≡ t → (vs : List (List ℕ)) → flat_map name_body (flat_map live (cond t (settle_cells is_name (nth_name (made_names vs)) 0 xs) (put_names (made_names vs) xs))) ≡ vs
    go true e vs = ap (flat_map name_body) (live_acted (change is_name (nth_name (made_names vs))) xs) ∙ settled_names (made_names vs) (flat_map live xs) e ∙ made_bodies vs
    go false e vs = put e vs

-- ---- where they stand

name_not_padding : (c : Chunk) → is_name c ≡ true → is_padding c ≡ false
name_not_padding c e = go (is_padding c) refl
  where
    go : (t : Bool) → is_padding c ≡ t → t ≡ false
    go false p = refl
    go true p = let no : bytes_eq (codes "JUNK") (codes "strn") ≡ true = subst (λ (x : List ℕ). bytes_eq x (codes "strn") ≡ true) (padding_id c p) e in absurd cc

pub padding_not_name : (c : Chunk) → is_padding c ≡ true → is_name c ≡ false
padding_not_name c p = ap (λ (x : List ℕ). bytes_eq x (codes "strn")) (padding_id c p)

named_token : (c : Chunk) → is_name c ≡ true → name_token c ≡ mark (codes "strn") ∷ []
named_token c e =
    ap (λ (b : Bool). cond b [] (cond (is_name c) (mark c.id) (leaf c.form c.id c.body) ∷ [])) (name_not_padding c e) ∙ ap (λ (b : Bool). cond b (mark c.id) (leaf c.form c.id c.body) ∷ []) e
    ∙ ap (λ (x : List ℕ). mark x ∷ []) (same_true c.id (codes "strn") e)

-- what is said of the tokens of a chunk that is no name
unnamed_token : (P : List Token → Type 0) (c : Chunk) → is_name c ≡ false → P [] → P (leaf c.form c.id c.body ∷ []) → P (name_token c)
unnamed_token P c e none one = go (is_padding c)
  where
    go : (t : Bool) → P (cond t [] (cond (is_name c) (mark c.id) (leaf c.form c.id c.body) ∷ []))
    go true = none
    go false = subst (λ (b : Bool). P (cond b (mark c.id) (leaf c.form c.id c.body) ∷ [])) (sym e) one

later_marks : (new : List Chunk) (n : ℕ) (cs : List Chunk) → flat_map name_token (settle is_name (nth_name new) (suc n) cs) ≡ settled_marks (codes "strn") [] (flat_map name_token cs)
later_marks new n [] = refl
later_marks new n (c ∷ cs) = go (is_name c) refl (λ k. later_marks new k cs)
  where
    go : (t : Bool) → is_name c ≡ t → ((k : ℕ) → flat_map name_token (settle is_name (nth_name new) (suc k) cs) ≡ settled_marks (codes "strn") [] (flat_map name_token cs)) → flat_map name_token (changed (cond t (nth_name new (suc n) c) leave) c ++ settle is_name (nth_name new) (cond t (suc (suc n)) (suc n)) cs) ≡ settled_marks (codes "strn") [] (name_token c ++ (flat_map name_token cs))
    go true e again = again (suc n) ∙ sym (ap (λ (ts : List Token). settled_marks (codes "strn") [] (ts ++ (flat_map name_token cs))) (named_token c e))
    go false e again =
        unnamed_token (λ ts. ts ++ flat_map name_token (settle is_name (nth_name new) (suc n) cs) ≡ settled_marks (codes "strn") [] (ts ++ (flat_map name_token cs))) c e (again n)
        (ap (λ (ts : List Token). leaf c.form c.id c.body ∷ ts) (again n))

settled_tokens : (new cs : List Chunk) → flat_map name_token (settle is_name (nth_name new) 0 cs) ≡ settled_marks (codes "strn") (flat_map name_token new) (flat_map name_token cs)
settled_tokens new [] = refl
settled_tokens new (c ∷ cs) = go (is_name c) refl (settled_tokens new cs)
  where
    go : (t : Bool) → is_name c ≡ t → flat_map name_token (settle is_name (nth_name new) 0 cs) ≡ settled_marks (codes "strn") (flat_map name_token new) (flat_map name_token cs) → flat_map name_token (changed (cond t (nth_name new 0 c) leave) c ++ settle is_name (nth_name new) (cond t 1 0) cs) ≡ settled_marks (codes "strn") (flat_map name_token new) (name_token c ++ (flat_map name_token cs))
    go true e again =
        flat_map-append name_token new (settle is_name (nth_name new) 1 cs) ∙ ap (λ (ts : List Token). flat_map name_token new ++ ts) (later_marks new 0 cs)
        ∙ sym (ap (λ (ts : List Token). settled_marks (codes "strn") (flat_map name_token new) (ts ++ (flat_map name_token cs))) (named_token c e))
    go false e again =
        unnamed_token (λ ts. ts ++ flat_map name_token (settle is_name (nth_name new) 0 cs) ≡ settled_marks (codes "strn") (flat_map name_token new) (ts ++ (flat_map name_token cs))) c e again
        (ap (λ (ts : List Token). leaf c.form c.id c.body ∷ ts) again)

marks_there : (cs : List Chunk) → has_mark (codes "strn") (flat_map name_token cs) ≡ list_any is_name (flat_map live (map cell_of cs))
marks_there [] = refl
marks_there (c ∷ cs) = go (is_padding c) refl (marks_there cs)
  where
    one : (u : Bool) → is_name c ≡ u → has_mark (codes "strn") (flat_map name_token cs) ≡ list_any is_name (flat_map live (map cell_of cs))
        → has_mark (codes "strn") (cond u (mark c.id) (leaf c.form c.id c.body) ∷ (flat_map name_token cs)) ≡ (u || list_any is_name (flat_map live (map cell_of cs)))
    one true e g = ap (λ (x : List ℕ). bytes_eq (codes "strn") x || has_mark (codes "strn") (flat_map name_token cs)) (same_true c.id (codes "strn") e)
    one false e g = g

    go : (t : Bool) → is_padding c ≡ t → has_mark (codes "strn") (flat_map name_token cs) ≡ list_any is_name (flat_map live (map cell_of cs))
        → has_mark (codes "strn") (cond t [] (cond (is_name c) (mark c.id) (leaf c.form c.id c.body) ∷ []) ++ (flat_map name_token cs)) ≡ list_any is_name (live (cell_by c t) ++ flat_map live (map cell_of cs))
    go true e g = g
    go false e g = one (is_name c) refl g

head_not_name : (c : Chunk) → is_name c ≡ true → is_head c ≡ false
head_not_name c e = ap is_head_id (same_true c.id (codes "strn") e)

heads_there : (cs : List Chunk) → list_any is_head_token (flat_map name_token cs) ≡ list_any is_head (flat_map live (map cell_of cs))
heads_there [] = refl
heads_there (c ∷ cs) = go (is_padding c) (heads_there cs)
  where
    one : (u : Bool) → is_name c ≡ u → is_head_token (cond u (mark c.id) (leaf c.form c.id c.body)) ≡ is_head c
    one true e = sym (head_not_name c e)
    one false e = refl

    go : (t : Bool) → list_any is_head_token (flat_map name_token cs) ≡ list_any is_head (flat_map live (map cell_of cs))
        → list_any is_head_token (cond t [] (cond (is_name c) (mark c.id) (leaf c.form c.id c.body) ∷ []) ++ (flat_map name_token cs)) ≡ list_any is_head (live (cell_by c t) ++ flat_map live (map cell_of cs))
    go true g = g
    go false g = ap (λ (b : Bool). b || list_any is_head_token (flat_map name_token cs)) (one (is_name c) refl) ∙ ap (λ (b : Bool). is_head c || b) g

no_heads : (new ts : List Token) → list_any is_head_token ts ≡ false → put_name_marks new ts ≡ new ++ ts
no_heads new [] h = sym (append-nil new)
no_heads new (t ∷ ts) h = ap (λ (b : Bool). cond b (t ∷ put_name_marks new ts) (new ++ (t ∷ ts))) h

nothing_put : (ts : List Token) → put_name_marks [] ts ≡ ts
nothing_put [] = refl
nothing_put (t ∷ ts) = go (list_any is_head_token (t ∷ ts)) (nothing_put ts)
  where
    go : (b : Bool) → put_name_marks [] ts ≡ ts → cond b (t ∷ put_name_marks [] ts) (t ∷ ts) ≡ t ∷ ts
    go true g = ap (λ (x : List Token). t ∷ x) g
    go false g = refl

seen_tokens : (cs : List Chunk) → flat_map name_token (flat_map live (map cell_of cs)) ≡ flat_map name_token cs
seen_tokens cs = view_cells name_token (λ c e. ap (λ (b : Bool). cond b [] (cond (is_name c) (mark c.id) (leaf c.form c.id c.body) ∷ [])) e) cs

put_tokens : (new cs : List Chunk) → flat_map name_token (flat_map live (put_name (edited [] new) (map cell_of cs))) ≡ put_name_marks (flat_map name_token new) (flat_map name_token cs)
put_tokens new [] = ap (flat_map name_token) (append-nil new)
put_tokens new (c ∷ cs) = go (is_padding c) refl (put_tokens new cs)
  where
    first : (y : Cell) (ts : List Token) → flat_map name_token (live y) ≡ ts → list_any is_head_token (ts ++ (flat_map name_token cs)) ≡ some_head (y ∷ (map cell_of cs)) → put_name_marks (flat_map name_token new) (ts ++ (flat_map name_token cs)) ≡ cond (some_head (y ∷ (map cell_of cs))) (ts ++ put_name_marks (flat_map name_token new) (flat_map name_token cs)) ((flat_map name_token new) ++ (ts ++ (flat_map name_token cs)))
        → flat_map name_token (flat_map live (put_name (edited [] new) (map cell_of cs))) ≡ put_name_marks (flat_map name_token new) (flat_map name_token cs)
        → flat_map name_token (flat_map live (put_name (edited [] new) (y ∷ (map cell_of cs)))) ≡ put_name_marks (flat_map name_token new) (ts ++ (flat_map name_token cs))
    first y ts see same now again = two (some_head (y ∷ (map cell_of cs))) ∙ sym now
      where
        two : (b : Bool) → flat_map name_token (flat_map live (cond b (y ∷ put_name (edited [] new) (map cell_of cs)) (edited [] new ∷ (y ∷ (map cell_of cs))))) ≡ cond b (ts ++ put_name_marks (flat_map name_token new) (flat_map name_token cs)) ((flat_map name_token new) ++ (ts ++ (flat_map name_token cs)))
        two true = flat_map-append name_token (live y) (flat_map live (put_name (edited [] new) (map cell_of cs))) ∙ ap (λ (x : List Token). x ++ flat_map name_token (flat_map live (put_name (edited [] new) (map cell_of cs)))) see ∙ ap (λ (x : List Token). ts ++ x) again
        two false =
            flat_map-append name_token new (live y ++ flat_map live (map cell_of cs)) ∙ ap (λ (x : List Token). (flat_map name_token new) ++ x) (flat_map-append name_token (live y) (flat_map live (map cell_of cs)) ∙ ap (λ (x : List Token). x ++ flat_map name_token (flat_map live (map cell_of cs))) see ∙ ap (λ (x : List Token). ts ++ x) (seen_tokens cs))

    go : (t : Bool) → is_padding c ≡ t → flat_map name_token (flat_map live (put_name (edited [] new) (map cell_of cs))) ≡ put_name_marks (flat_map name_token new) (flat_map name_token cs)
        → flat_map name_token (flat_map live (put_name (edited [] new) (cell_by c t ∷ (map cell_of cs)))) ≡ put_name_marks (flat_map name_token new) (cond t [] (cond (is_name c) (mark c.id) (leaf c.form c.id c.body) ∷ []) ++ (flat_map name_token cs))
    go true e again = first (gap c) [] refl (heads_there cs) (both (some_head (gap c ∷ (map cell_of cs))) refl) again
      where
        both : (b : Bool) → some_head (gap c ∷ (map cell_of cs)) ≡ b → put_name_marks (flat_map name_token new) (flat_map name_token cs) ≡ cond b (put_name_marks (flat_map name_token new) (flat_map name_token cs)) ((flat_map name_token new) ++ (flat_map name_token cs))
        both true d = refl
        both false d = no_heads (flat_map name_token new) (flat_map name_token cs) (heads_there cs ∙ d)
    go false e again =
        let t = cond (is_name c) (mark c.id) (leaf c.form c.id c.body) in
        let see : name_token c ≡ t ∷ [] = ap (λ (b : Bool). cond b [] (t ∷ [])) e in
        let same : list_any is_head_token (t ∷ (flat_map name_token cs)) ≡ some_head (kept c ∷ (map cell_of cs)) = sym (ap (λ (ts : List Token). list_any is_head_token (ts ++ (flat_map name_token cs))) see) ∙ heads_there (c ∷ cs) ∙ ap (λ (b : Bool). list_any is_head (live (cell_by c b) ++ flat_map live (map cell_of cs))) e in
        first (kept c) (t ∷ []) (append-nil (name_token c) ∙ see) same (ap (λ (b : Bool). cond b (t ∷ put_name_marks (flat_map name_token new) (flat_map name_token cs)) ((flat_map name_token new) ++ (t ∷ (flat_map name_token cs)))) same) again

made_marks : (vs : List (List ℕ)) → flat_map name_token (made_names vs) ≡ name_marks vs
made_marks [] = refl
made_marks (v ∷ vs) = ap (λ (x : List Token). mark (codes "strn") ∷ x) (made_marks vs)

-- All else stands where it stood, and a new name where it is at home.
pub names_placed : (vs : List (List ℕ)) (cs : List Chunk) → flat_map name_token (flat_map live (name_cells (made_names vs) (map cell_of cs))) ≡ place_name (name_marks vs) (flat_map name_token cs)
names_placed vs cs =
    go (list_any is_name (flat_map live (map cell_of cs))) vs ∙ ap (λ (b : Bool). cond b (settled_marks (codes "strn") (name_marks vs) (flat_map name_token cs)) (put_name_marks (name_marks vs) (flat_map name_token cs))) (sym (marks_there cs))
  where
    put : (vs : List (List ℕ)) → flat_map name_token (flat_map live (put_names (made_names vs) (map cell_of cs))) ≡ put_name_marks (name_marks vs) (flat_map name_token cs)
    put [] = seen_tokens cs ∙ sym (nothing_put (flat_map name_token cs))
    put (v ∷ vs) = put_tokens (made_names (v ∷ vs)) cs ∙ ap (λ (x : List Token). put_name_marks x (flat_map name_token cs)) (made_marks (v ∷ vs))

    settled : (vs : List (List ℕ)) → flat_map name_token (settle is_name (nth_name (made_names vs)) 0 (flat_map live (map cell_of cs))) ≡ settled_marks (codes "strn") (name_marks vs) (flat_map name_token cs)
    settled vs = settled_tokens (made_names vs) (flat_map live (map cell_of cs)) ∙ ap (λ (x : List Token). settled_marks (codes "strn") x (flat_map name_token (flat_map live (map cell_of cs)))) (made_marks vs) ∙ ap (settled_marks (codes "strn") (name_marks vs)) (seen_tokens cs)

    go : (t : Bool) (vs : List (List ℕ)) → flat_map name_token (flat_map live (cond t (settle_cells is_name (nth_name (made_names vs)) 0 (map cell_of cs)) (put_names (made_names vs) (map cell_of cs)))) ≡ cond t (settled_marks (codes "strn") (name_marks vs) (flat_map name_token cs)) (put_name_marks (name_marks vs) (flat_map name_token cs))
    go true vs = ap (flat_map name_token) (live_acted (change is_name (nth_name (made_names vs))) (map cell_of cs)) ∙ settled vs
    go false vs = put vs
