-- An edit of fields and names as spans of the old file that are replaced: those of the names, and then those of the lists of fields.
use Rattle.std.proofs.Common.{◌≡◌, ℕ, ◌+◌, List, [], ◌++◌, length, refl, sym, ap, subst, ◌∙◌, append_assoc, arith}
use Rattle.std.specs.Prelude.{codes}
use Rattle.std.specs.Int.{w32, to_le_bytes}
use Rattle.std.specs.List.{flat_map}
use Rattle.std.proofs.lemmas.List.{length-append, append-nil}
use Rattle.container_model.specs.Chunk.{riff, spell_all}
use Rattle.container_model.specs.Splice.{splice, splice_from}
use Rattle.container_model.specs.Units.{shut, units, lay, cuts, old_bytes}
use Rattle.container_model.proofs.Units.{From, From-low, splice_past, lay_splices_more, units_old, units_bring}
use Rattle.carrier_model.specs.RiffForm.{pad_cut, with_size, fill_of}
use Rattle.carrier_model.proofs.RiffForm.{pad_from, pad_spliced, size_set, spelled_is}
use Rattle.avi_model.specs.After.{Changes, children_after, joined, list_cuts, pad_after}
use Rattle.avi_model.specs.Avi.{Avi, behind, inner, spell_avi}
use Rattle.avi_model.specs.Named.{Names, ends_file, name_cuts, named, riff_of}
use Rattle.avi_model.specs.NewFile.{Items, new_cells, new_children}
use Rattle.avi_model.proofs.Children.{AreChildren}
use Rattle.avi_model.proofs.NamesSpliced.{children_splices, from_pieces}
use Rattle.avi_model.proofs.Tables.{was_new}

-- the header of the first form and its type
abbrev pub head_bytes : ℕ → List ℕ
head_bytes n = codes "RIFF" ++ (to_le_bytes w32 n ++ codes "AVI ")

-- a file: its head, its chunks, and what is behind them
pub avi_parts : (a : Avi) → spell_avi a ≡ head_bytes (length (inner a.children a.left)) ++ (spell_all a.children ++ (a.left ++ (a.pad ++ behind a)))
avi_parts a = spelled_is (riff_of a) tt ∙ regroup (codes "RIFF") (to_le_bytes w32 (length (inner a.children a.left))) (codes "AVI ") (spell_all a.children) a.left (a.pad ++ behind a)
  where
    regroup : (i g d c l p : List ℕ) → i ++ (g ++ ((d ++ (c ++ l)) ++ p)) ≡ (i ++ (g ++ d)) ++ (c ++ (l ++ p))
    regroup i g d c l p = simp append_assoc

sized : (k m : ℕ) (x : List ℕ) → with_size riff m (head_bytes k ++ x) ≡ head_bytes m ++ x
sized k m x = size_set riff tt k m (codes "RIFF") (codes "AVI ") x refl (λ e. absurd cc)

-- The file with other names.
pub names_spliced : (a : Avi) (e : Names) → AreChildren a.children
    → splice (spell_avi a) (name_cuts a e) ≡ head_bytes (length (inner a.children a.left)) ++ (spell_all (named a e).children ++ (a.left ++ (a.pad ++ behind a)))
names_spliced a e h =
    let head = head_bytes (length (inner a.children a.left)) in
    let more = a.left ++ (a.pad ++ behind a) in
    let s = children_splices e (ends_file a) 12 a.children h in
    let first : From 12 (name_cuts a e) = subst (From 12) (append-nil (name_cuts a e)) (s.from [] tt) in
    let zero : 0 + length head ≡ 12 = omega arith in
    ap (λ (x : List ℕ). splice x (name_cuts a e)) (avi_parts a)
    ∙ splice_past 0 head (spell_all a.children ++ more) (name_cuts a e) (subst (λ (q : ℕ). From q (name_cuts a e)) (sym zero) first)
    ∙ ap (λ (q : ℕ). head ++ splice_from q (spell_all a.children ++ more) (name_cuts a e)) zero
    ∙ ap (λ (x : List ℕ). head ++ x) (ap (splice_from 12 (spell_all a.children ++ more)) (sym (append-nil (name_cuts a e))) ∙ s.replaced more [] tt)

-- A file with its lists of fields edited, and another pad of the form.
lists_spliced : (n : Avi) (e : Items) (pad : List ℕ) (k : ℕ)
    → splice (head_bytes k ++ (spell_all n.children ++ (n.left ++ (n.pad ++ behind n)))) (cuts (fill_of (riff_of n)) 12 (units shut (new_cells n e)) ++ pad_cut (8 + length (inner n.children n.left)) n.pad pad)
    ≡ head_bytes k ++ (spell_all (new_children n e) ++ (n.left ++ (pad ++ behind n)))
lists_spliced n e pad k =
    let fill = fill_of (riff_of n) in
    let ps = units shut (new_cells n e) in
    let at = 8 + length (inner n.children n.left) in
    let last = pad_cut at n.pad pad in
    let rest = n.left ++ (n.pad ++ behind n) in
    let cs = cuts fill 12 ps ++ last in
    let half = 12 + length (flat_map old_bytes ps) in
    let old : flat_map old_bytes ps ≡ spell_all n.children = units_old shut (new_cells n e) ∙ ap spell_all (was_new n e) in
    let end : half + length n.left ≡ at = omega (arith, ap length old, length-append (spell_all n.children) n.left) in
    let from : From half last = From-low half at last (omega (arith, end)) (pad_from at n.pad pad) in
    let tail : splice_from half rest last ≡ n.left ++ (pad ++ behind n)
    = splice_past half n.left (n.pad ++ behind n) last (subst (λ (q : ℕ). From q last) (sym end) (pad_from at n.pad pad))
    ∙ ap (λ (q : ℕ). n.left ++ splice_from q (n.pad ++ behind n) last) end ∙ ap (λ (x : List ℕ). n.left ++ x) (pad_spliced at n.pad pad (behind n)) in
    let zero : 0 + length (head_bytes k) ≡ 12 = omega arith in
    splice_past 0 (head_bytes k) (spell_all n.children ++ rest) cs (subst (λ (q : ℕ). From q cs) (sym zero) (from_pieces fill 12 ps last from))
    ∙ ap (λ (q : ℕ). head_bytes k ++ splice_from q (spell_all n.children ++ rest) cs) zero
    ∙ ap (λ (x : List ℕ). head_bytes k ++ x)
    (ap (λ (x : List ℕ). splice_from 12 (x ++ rest) cs) (sym old) ∙ lay_splices_more fill 12 ps rest last (units_bring shut (new_cells n e) tt) from ∙ ap (λ (x : List ℕ). spell_all (lay fill ps) ++ x) tail)

-- The file with both: spans are replaced twice, and the form's size is set.
pub joined_spliced : (a : Avi) (e : Changes) → AreChildren a.children
    → spell_avi (joined a e) ≡ with_size riff (length (inner (children_after a e) a.left)) (splice (splice (spell_avi a) (name_cuts a e.names)) (list_cuts a e))
joined_spliced a e h =
    let k = length (inner a.children a.left) in
    let m = length (inner (children_after a e) a.left) in
    let x = spell_all (children_after a e) ++ (a.left ++ (pad_after a e ++ behind a)) in
    avi_parts (joined a e)
    ∙ sym (ap (with_size riff m) (ap (λ (y : List ℕ). splice y (list_cuts a e)) (names_spliced a e.names h) ∙ lists_spliced (named a e.names) e.infos (pad_after a e) k) ∙ sized k m x)
