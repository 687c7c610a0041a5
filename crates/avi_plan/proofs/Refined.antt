-- Spans that are replaced, by smaller ones in them.
use Rattle.std.proofs.Common.{◌≡◌, ◌∙◌, ℕ, ◌+◌, ◌-◌, ◌≤◌, List, [], ◌∷◌, ◌++◌, take, drop, sym, ap, arith, append_assoc}
use Rattle.std.proofs.Math.Seq.{take-add}
use Rattle.std.proofs.lemmas.List.{drop-drop, take-append-drop}
use Rattle.container_model.specs.Splice.{Cut, end_of, splice_from}

-- no span begins before a place
abbrev pub Behind : ℕ → List Cut → Type 0
Behind q [] = Unit {0}
Behind q (c ∷ cs) = (q ≤ c.at)

module _ (b : List ℕ) where
  -- a piece of the file
  abbrev pub piece : ℕ → ℕ → List ℕ
  piece p q = take (q - p) (drop p b)

  -- what is left of it, with spans replaced
  abbrev pub left : ℕ → List Cut → List ℕ
  left p cs = splice_from p (drop p b) cs

  pub further : (p q : ℕ) → p ≤ q → drop (q - p) (drop p b) ≡ drop q b
  further p q le = drop-drop (q - p) p b ∙ ap (λ (k : ℕ). drop k b) (omega (arith, le))

  pub pieces : (p q r : ℕ) → p ≤ q → q ≤ r → piece p r ≡ piece p q ++ piece q r
  pieces p q r le more =
      let n : r - p ≡ (q - p) + (r - q) = omega (arith, le, more) in
      ap (λ (k : ℕ). take k (drop p b)) n ∙ take-add (q - p) (r - q) (drop p b) ∙ ap (λ (x : List ℕ). piece p q ++ take (r - q) x) (further p q le)

  pub cut_more : (p : ℕ) (c : Cut) (rest : List Cut) → p ≤ c.at → left p (c ∷ rest) ≡ piece p c.at ++ (c.bytes ++ left (end_of c) rest)
  cut_more p c rest le = ap (λ (x : List ℕ). piece p c.at ++ (c.bytes ++ splice_from (end_of c) x rest)) (further p (end_of c) (omega (arith, le)))

  pub copy_more : (p q : ℕ) (rest : List Cut) → p ≤ q → Behind q rest → left p rest ≡ piece p q ++ left q rest
  copy_more p q [] le h = sym (take-append-drop (q - p) (drop p b)) ∙ ap (λ (x : List ℕ). piece p q ++ x) (further p q le)
  copy_more p q (c ∷ cs) le h =
      let tail = c.bytes ++ left (end_of c) cs in
      cut_more p c cs (omega (arith, le, h)) ∙ ap (λ (x : List ℕ). x ++ tail) (pieces p q c.at le h) ∙ append_assoc (piece p q) (piece q c.at) tail
      ∙ ap (λ (x : List ℕ). piece p q ++ x) (sym (cut_more q c cs h))

  -- no span in one
  pub refine_none : (p : ℕ) (d : Cut) (rest : List Cut) → p ≤ d.at → Behind (end_of d) rest → d.bytes ≡ piece d.at (end_of d) → left p rest ≡ left p (d ∷ rest)
  refine_none p d rest le behind e =
      let s = left (end_of d) rest in
      copy_more p (end_of d) rest (omega (arith, le)) behind ∙ ap (λ (x : List ℕ). x ++ s) (pieces p d.at (end_of d) le (omega arith)) ∙ append_assoc (piece p d.at) (piece d.at (end_of d)) s
      ∙ ap (λ (x : List ℕ). piece p d.at ++ (x ++ s)) (sym e) ∙ sym (cut_more p d rest le)

  -- one
  pub refine_one : (p : ℕ) (c d : Cut) (rest : List Cut) → p ≤ d.at → d.at ≤ c.at → end_of c ≤ end_of d → Behind (end_of d) rest
      → d.bytes ≡ piece d.at c.at ++ (c.bytes ++ piece (end_of c) (end_of d)) → left p (c ∷ rest) ≡ left p (d ∷ rest)
  refine_one p c d rest le front back behind e =
      let s = left (end_of d) rest in
      cut_more p c rest (omega (arith, le, front))
      ∙ ap (λ (x : List ℕ). piece p c.at ++ (c.bytes ++ x)) (copy_more (end_of c) (end_of d) rest back behind)
      ∙ ap (λ (x : List ℕ). x ++ (c.bytes ++ (piece (end_of c) (end_of d) ++ s))) (pieces p d.at c.at le front)
      ∙ regroup (piece p d.at) (piece d.at c.at) c.bytes (piece (end_of c) (end_of d)) s
      ∙ ap (λ (x : List ℕ). piece p d.at ++ (x ++ s)) (sym e) ∙ sym (cut_more p d rest le)
    where
      regroup : (a f y t s : List ℕ) → (a ++ f) ++ (y ++ (t ++ s)) ≡ a ++ ((f ++ (y ++ t)) ++ s)
      regroup a f y t s = simp append_assoc

  -- two
  pub refine_two : (p : ℕ) (c e d : Cut) (rest : List Cut) → p ≤ d.at → d.at ≤ c.at → end_of c ≤ e.at → end_of e ≤ end_of d → Behind (end_of d) rest
      → d.bytes ≡ piece d.at c.at ++ (c.bytes ++ (piece (end_of c) e.at ++ (e.bytes ++ piece (end_of e) (end_of d)))) → left p (c ∷ (e ∷ rest)) ≡ left p (d ∷ rest)
  refine_two p c e d rest le front between back behind is =
      let s = left (end_of d) rest in
      cut_more p c (e ∷ rest) (omega (arith, le, front))
      ∙ ap (λ (x : List ℕ). piece p c.at ++ (c.bytes ++ x)) (cut_more (end_of c) e rest between)
      ∙ ap (λ (x : List ℕ). piece p c.at ++ (c.bytes ++ (piece (end_of c) e.at ++ (e.bytes ++ x)))) (copy_more (end_of e) (end_of d) rest back behind)
      ∙ ap (λ (x : List ℕ). x ++ (c.bytes ++ (piece (end_of c) e.at ++ (e.bytes ++ (piece (end_of e) (end_of d) ++ s))))) (pieces p d.at c.at le front)
      ∙ regroup (piece p d.at) (piece d.at c.at) c.bytes (piece (end_of c) e.at) e.bytes (piece (end_of e) (end_of d)) s
      ∙ ap (λ (x : List ℕ). piece p d.at ++ (x ++ s)) (sym is) ∙ sym (cut_more p d rest le)
    where
      regroup : (a f y m z t s : List ℕ) → (a ++ f) ++ (y ++ (m ++ (z ++ (t ++ s)))) ≡ a ++ ((f ++ (y ++ (m ++ (z ++ t)))) ++ s)
      regroup a f y m z t s = simp append_assoc
