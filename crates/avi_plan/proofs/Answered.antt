-- The answer of a planner: what is too large, or a plan in its form.
use Rattle.std.proofs.Common.{◌≡◌, ◌∙◌, ◌⊎◌, ℕ, ◌+◌, ◌^◌, ◌≤◌, ◌<◌, Bool, true, false, cond, eqb, leb, ltb, List, [], ◌∷◌, ◌++◌, length, map, take, drop, Option, Some, None, refl, sym, ap, subst, arith, inl, inr, append-nil, append_assoc}
use Rattle.std.specs.Prelude.{◌&&◌, codes}
use Rattle.std.specs.Int.{w32, to_le_bytes}
use Rattle.std.specs.List.{AllByRecursion, flat_map}
use Rattle.std.proofs.lemmas.Bool.{and_parts, cases_lt, cond-false, cond-true, eqb-true, le-leb, le-ltb, leb-true, lt-leb, lt-ltb, ltb-false}
use Rattle.std.proofs.lemmas.List.{take_at}
use Rattle.me_bytes.specs.Bytes.{IsBytes}
use Rattle.part_tree.specs.declared.field.EditItem.{EditItem}
use Rattle.part_tree.specs.declared.plan.Patch.{Patch}
use Rattle.part_tree.specs.declared.plan.Plan.{Plan}
use Rattle.part_tree.specs.declared.plan.Plan.TheVariants.{InPlace, Rewrite}
use Rattle.part_tree.specs.Large.{Size, limited}
use Rattle.part_tree.specs.Moves.{Move}
use Rattle.part_tree.specs.Patches.{all_bytes}
use Rattle.part_tree.specs.Plans.{CanRun, applied}
use Rattle.part_tree.specs.Tables.{moved}
use Rattle.field_model.specs.Kind.{MakeInPlace}
use Rattle.field_model.specs.KindReads.{Declines, IsForm}
use Rattle.part_tree.specs.declared.plan.PlanFault.{PlanFault}
use Rattle.part_tree.specs.declared.plan.PlanFault.TheVariants.{Depot, Memory, TooLarge}
use Rattle.field_model.specs.Update.{effective}
use Rattle.container_model.specs.Splice.{Ascend, Cut, end_of, splice}
use Rattle.container_model.specs.Stood.{Stood}
use Rattle.container_model.specs.Tables.{Table}
use Rattle.container_model.specs.Tables as stood
use Rattle.container_model.specs.Tests.{first, or_else}
use Rattle.carrier_model.specs.Gaps.{moves_of}
use Rattle.opendml_index.specs.Index.{How, move}
use Rattle.avi_model.specs.After.{Changes, all_changes, all_fields, avi_after, changed_file, checks_after, children_after, file_after, goes, is_idle, joined, joined_file, large_after, large_by, parts_after, renumbered_avi}
use Rattle.avi_model.specs.Avi.{Avi, avi_of, inner, old_indexes}
use Rattle.avi_model.specs.Index.{base, indexes, olds, writes}
use Rattle.avi_model.specs.JoinedSplices.{IsJoinedSplice, after_cuts, joined_cuts}
use Rattle.avi_model.specs.Kind.{avi_kind}
use Rattle.avi_model.specs.Large.{Check, Placed, at_most, by_place, limit32, tables_placed}
use Rattle.avi_model.specs.NewFile.{put_cuts, size_cut, table_cuts}
use Rattle.avi_model.specs.RoomAfter.{lists_fit, names_fit, patches_after, patches_of, room_after}
use Rattle.avi_model.specs.Support.{Supported, SupportedNames, infos, part_limit, parts}
use Rattle.avi_model.specs.Support as support
use Rattle.avi_model.proofs.AfterKind.{none_changed}
use Rattle.avi_model.proofs.Among.{Among, all_among, among_map}
use Rattle.avi_model.proofs.AviKind.{is_avi_kind}
use Rattle.avi_model.proofs.Frames.{again as read_again}
use Rattle.avi_model.proofs.JoinedCuts.{size_stays}
use Rattle.avi_model.proofs.NamedKind.{LaidFits, laid_fits, spliced_as_one}
use Rattle.avi_model.proofs.NamesExact.{names_exact}
use Rattle.avi_model.proofs.Read.{renewed_avi}
use Rattle.avi_model.proofs.Sorted.{from_sorted}
use Rattle.avi_model.proofs.Stands.{is_file}
use Rattle.avi_model.proofs.Tabled.{all_tables}
use Rattle.unit_plan.specs.Cuts.{SpansAscend, cut_in}
use Rattle.unit_plan.specs.Planned as Units
use Rattle.unit_plan.specs.Sized.{IsTooMuch, size_at, spliced_len}
use Rattle.unit_plan.specs.declared.cut.CutAt.{CutAt}
use Rattle.unit_plan.specs.declared.row.UnitCuts.{UnitCuts}
use Rattle.avi_plan.specs.declared.form.FormAt.{FormAt}
use Rattle.avi_plan.specs.Changes.{IsNamed, TellsFault, merged, refused}
use Rattle.avi_plan.specs.Comes.{ComesTo, list_checks}
use Rattle.avi_plan.specs.Drops.{Drops, IsStill}
use Rattle.avi_plan.specs.Form.{IsFormOf, sizes}
use Rattle.avi_plan.specs.Patched.{placed_patches}
use Rattle.avi_plan.specs.Planned.{Makes, too_long}
use Rattle.avi_plan.specs.Renewed.{IsClear, stop_of}
use Rattle.avi_plan.specs.Tables.{Tabled, changes_of, index, old, put_tabled, put_tableds, table_of, tables_in}
use Rattle.avi_plan.proofs.Agreed.{cuts_agree, placed_agree}
use Rattle.avi_plan.proofs.Drops.{drops_puts, drops_splice, puts_behind}
use Rattle.avi_plan.proofs.Goes.{essence_goes, index_apart, old_apart}
use Rattle.avi_plan.proofs.Ordered.{checks_in_order}
use Rattle.avi_plan.proofs.Refused.{tables_refused}
use Rattle.avi_plan.proofs.Spans.{sizes_ascend}
use Rattle.avi_plan.proofs.Standing.{among_spans, tabled}

-- ---- checks in turn

first_both : (xs ys : List Check) → first (xs ++ ys) ≡ or_else (first xs) (first ys)
first_both [] ys = refl
first_both (x ∷ xs) ys = go x.0 (first_both xs ys)
  where
    go : (t : Bool) → first (xs ++ ys) ≡ or_else (first xs) (first ys) → cond t (Some x.1) (first (xs ++ ys)) ≡ or_else (cond t (Some x.1) (first xs)) (first ys)
    go true again = refl
    go false again = again

-- the length of a file
last_check : (n : ℕ) → first (at_most 9223372036854775807 n ∷ []) ≡ too_long n
last_check n = go (cases_lt 9223372036854775807 n)
  where
    go : (9223372036854775807 < n) ⊎ (n ≤ 9223372036854775807) → cond {A = Option Size} (ltb 9223372036854775807 n) (Some (limited 9223372036854775807 n)) None ≡ cond (leb n 9223372036854775807) None (Some (limited 9223372036854775807 n))
    go (inl lt) =
        cond-true (ltb 9223372036854775807 n) (Some (limited 9223372036854775807 n)) None (lt-ltb 9223372036854775807 n lt)
        ∙ sym (cond-false (leb n 9223372036854775807) None (Some (limited 9223372036854775807 n)) (lt-leb n 9223372036854775807 lt))
    go (inr le) =
        cond-false (ltb 9223372036854775807 n) (Some (limited 9223372036854775807 n)) None (le-ltb 9223372036854775807 n le)
        ∙ sym (cond-true (leb n 9223372036854775807) None (Some (limited 9223372036854775807 n)) (le-leb n 9223372036854775807 le))

-- where neither the parts nor the size is too large
size_passes : (parts n : ℕ) → None ≡ first (at_most part_limit parts ∷ (at_most limit32 n ∷ [])) → n ≤ 4294967295
size_passes parts n none = go (ltb 65536 parts) (ltb 4294967295 n) refl none
  where
    go : (s t : Bool) → ltb 4294967295 n ≡ t → None ≡ cond s (Some (limited 65536 parts)) (cond t (Some (limited 4294967295 n)) None) → n ≤ 4294967295
    go s false e none = ltb-false 4294967295 n e
    go true true e none = absurd cc
    go false true e none = absurd cc

-- ---- all tables

put_all : (P : Tabled → Type 0) (t : Tabled) (us : List Tabled) → P t → AllByRecursion P us → AllByRecursion P (put_tabled t us)
put_all P t [] h all = (h, tt)
put_all P t (u ∷ us) h all = go (leb ((table_of t).at + length (table_of t).body) (table_of u).at) (put_all P t us h all.1)
  where
    go : (v : Bool) → AllByRecursion P (put_tabled t us) → AllByRecursion P (cond v (t ∷ (u ∷ us)) (u ∷ put_tabled t us))
    go true more = (h, all)
    go false more = (all.0, more)

puts_all : (P : Tabled → Type 0) (ts us : List Tabled) → AllByRecursion P ts → AllByRecursion P us → AllByRecursion P (put_tableds ts us)
puts_all P [] us h all = all
puts_all P (t ∷ ts) us h all = put_all P t (put_tableds ts us) h.0 (puts_all P ts us h.1 all)

each_table : (P : Tabled → Type 0) (o : List ℕ) → ((t : Table) → Among t (indexes o) → P (index t)) → ((x : Stood) → Among x (old_indexes (avi_of o)) → P (old (stood.table_of x))) → AllByRecursion P (tables_in o)
each_table P o h k =
    puts_all P (map old (olds o)) (map index (support.by_place (indexes o)))
    (all_among P (map old (olds o))
    (λ x i.
    let m = among_map old (olds o) x i in
    let n = among_map stood.table_of (old_indexes (avi_of o)) m.from m.from_among in
    subst P (ap old n.same ∙ m.same) (k n.from n.from_among)))
    (all_among P (map index (support.by_place (indexes o)))
    (λ x i.
    let m = among_map index (support.by_place (indexes o)) x i in
    subst P m.same (h m.from (from_sorted m.from (indexes o) m.from_among))))

flip_heads : {X Y : Type 0} (R : X → Y → Type 0) (y : Y) (ys : List Y) (xs : List X) → AllByRecursion (λ x. AllByRecursion (λ y. R x y) (y ∷ ys)) xs → AllByRecursion (λ x. R x y) xs
flip_heads R y ys [] h = tt
flip_heads R y ys (x ∷ xs) h = (h.0.0, flip_heads R y ys xs h.1)

flip_tails : {X Y : Type 0} (R : X → Y → Type 0) (y : Y) (ys : List Y) (xs : List X) → AllByRecursion (λ x. AllByRecursion (λ y. R x y) (y ∷ ys)) xs → AllByRecursion (λ x. AllByRecursion (λ y. R x y) ys) xs
flip_tails R y ys [] h = tt
flip_tails R y ys (x ∷ xs) h = (h.0.1, flip_tails R y ys xs h.1)

flip : {X Y : Type 0} (R : X → Y → Type 0) (xs : List X) (ys : List Y) → AllByRecursion (λ x. AllByRecursion (λ y. R x y) ys) xs → AllByRecursion (λ y. AllByRecursion (λ x. R x y) xs) ys
flip R xs [] h = tt
flip R xs (y ∷ ys) h = (flip_heads R y ys xs h, flip R xs ys (flip_tails R y ys xs h))

-- ---- of a file

both_true : (s t : Bool) → s ≡ true → t ≡ true → (s && t) ≡ true
both_true true true e i = refl
both_true true false e i = absurd cc
both_true false t e i = absurd cc

-- why nothing is planned
pub declines : (b : List ℕ) (e : List EditItem) (x : Option Size) (fault : PlanFault) → large_after b e ≡ x → TellsFault x fault → Declines avi_kind b e fault
declines b e x (TooLarge size limit) is h = is ∙ h
declines b e x Depot is h = tt
declines b e x Memory is h = tt

module _ (b : List ℕ) (e : List EditItem) (bytes : IsBytes b) (sup : SupportedNames b) (f : FormAt) (known : IsFormOf b f) (n : ℕ) (u : UnitCuts) (effect : is_idle (all_changes b e) ≡ false) (comes : ComesTo b (all_changes b e) f n u) where
  abbrev c : Changes
  c = all_changes b e

  abbrev a : Avi
  a = avi_of b

  abbrev how : How
  how = move (goes (avi_of b) (all_changes b e))

  abbrev rb : Avi
  rb = renewed_avi (writes (move (goes (avi_of b) (all_changes b e))) b) (avi_of b)

  abbrev ms : List Move
  ms = moves_of (map (cut_in b) u.cuts.items) f.len

  abbrev tables : List Check
  tables = flat_map (λ (p : Placed). p.checks) (by_place (tables_placed (goes (avi_of b) (all_changes b e)) b))

  s : Supported b
  s = sup.file

  after_is : avi_after b c ≡ joined rb c
  after_is = ap (λ (x : Avi). joined x c) (read_again b bytes s how)

  size_is : length (inner (avi_after b c).children (avi_after b c).left) ≡ n
  size_is = ap (λ (x : Avi). length (inner x.children x.left)) after_is ∙ size_stays b bytes s how c ∙ sym comes.size

  file_is : changed_file b c ≡ joined_file b c
  file_is = ap (λ (t : Bool). cond t b (joined_file b c)) effect

  large_is : large_after b e ≡ first (checks_after b (all_changes b e))
  large_is = go (effective (all_fields b) e) refl
    where
      go : (x : List EditItem) → effective (all_fields b) e ≡ x → large_by x b (all_changes b e) ≡ first (checks_after b (all_changes b e))
      go [] d = let yes : is_idle (all_changes b e) ≡ true = ap is_idle (none_changed b e d) in absurd cc
      go (i ∷ is) d = refl

  -- parts and size, tables, and the file, in turn
  all_told : large_after b e ≡ or_else (first (at_most part_limit u.parts ∷ (at_most limit32 n ∷ []))) (or_else (first tables) (too_long (length (joined_file b c))))
  all_told =
      let fronts = λ (k m : ℕ). at_most part_limit k ∷ (at_most limit32 m ∷ []) in
      let last = λ (x : List ℕ). at_most 9223372036854775807 (length x) ∷ [] in
      let k = parts_after (renumbered_avi b c) c in
      let m = length (inner (avi_after b c).children (avi_after b c).left) in
      large_is
      ∙ first_both (list_checks b c) (fronts k m ++ (tables ++ last (changed_file b c)))
      ∙ ap (λ (o : Option Size). or_else o (first (fronts k m ++ (tables ++ last (changed_file b c))))) comes.lists
      ∙ first_both (fronts k m) (tables ++ last (changed_file b c))
      ∙ ap (λ (j : ℕ). or_else (first (fronts j m)) (first (tables ++ last (changed_file b c)))) (sym comes.parts_are)
      ∙ ap (λ (j : ℕ). or_else (first (fronts u.parts j)) (first (tables ++ last (changed_file b c)))) size_is
      ∙ ap (or_else (first (fronts u.parts n)))
      (first_both tables (last (changed_file b c)) ∙ ap (λ (x : List ℕ). or_else (first tables) (first (last x))) file_is ∙ ap (or_else (first tables)) (last_check (length (joined_file b c))))

  -- the parts or the size
  pub refuses : (x : Size) → Some x ≡ first (at_most part_limit u.parts ∷ (at_most limit32 n ∷ [])) → large_after b e ≡ Some x
  refuses x some = all_told ∙ ap (λ (o : Option Size). or_else o (or_else (first tables) (too_long (length (joined_file b c))))) (sym some)

  module _ (none : None ≡ first (at_most part_limit u.parts ∷ (at_most limit32 n ∷ []))) where
    short : length (inner (children_after (renewed_avi (writes (move (goes (avi_of b) (all_changes b e))) b) (avi_of b)) (all_changes b e)) (avi_of b).left) < 2 ^ 32
    short = omega (arith, size_passes u.parts n none, size_stays b bytes s how c, comes.size)

    len_is : moves_of (map (cut_in b) u.cuts.items) (length b) ≡ ms
    len_is = ap (moves_of (map (cut_in b) u.cuts.items)) (sym known.len)

    goes_there : (m : Stood) → Among m (Rattle.avi_model.specs.Avi.essence (avi_of b)) → (q : ℕ) → m.at + 8 ≤ q → q < m.at + 8 + length m.chunk.body
        → moved (moves_of (map (cut_in b) u.cuts.items) f.len) q ≡ goes (avi_of b) (all_changes b e) q
    goes_there m i q low high = subst (λ (ns : List Move). moved ns q ≡ goes a c q) len_is (essence_goes b bytes s c short (map (cut_in b) u.cuts.items) comes.cuts_are m i q low high)

    -- the tables
    tables_told : first tables ≡ refused ms b (flat_map (changes_of ms (base b)) (tables_in b))
    tables_told =
        ap (λ (ps : List Placed). first (flat_map (λ (p : Placed). p.checks) (by_place ps))) (sym (placed_agree b bytes s (moved ms) (goes a c) goes_there))
        ∙ ap first (checks_in_order (moved ms) b bytes s) ∙ sym (tables_refused ms b (base b) (tables_in b) (tabled b bytes s))

    -- a row, or the file
    pub told : large_after b e ≡ or_else (refused ms b (flat_map (changes_of ms (base b)) (tables_in b))) (too_long (spliced_len f.len (sizes f n ++ u.cuts.items)))
    told =
        all_told
        ∙ ap (λ (o : Option Size). or_else o (or_else (first tables) (too_long (length (joined_file b c))))) (sym none)
        ∙ ap (λ (o : Option Size). or_else o (too_long (length (joined_file b c)))) tables_told
        ∙ ap (λ (k : ℕ). or_else (refused ms b (flat_map (changes_of ms (base b)) (tables_in b))) (too_long k)) (sym comes.long)

    -- ---- what is made

    module _ (small : large_after b e ≡ None) where
      fits : LaidFits b (all_changes b e)
      fits = laid_fits b e bytes s small effect

      splice_of : (is_idle (all_changes b e) ≡ true) ⊎ IsJoinedSplice b (all_changes b e) (file_after b e) → IsJoinedSplice b (all_changes b e) (file_after b e)
      splice_of (inl idle) = absurd cc
      splice_of (inr is) = is

      is_splice : IsJoinedSplice b (all_changes b e) (file_after b e)
      is_splice = splice_of (spliced_as_one b e bytes s small)

      abbrev ks : List CutAt
      ks = sizes f n ++ u.cuts.items

      low_spans : (x : Tabled) → 8 ≤ (table_of x).at → AllByRecursion (λ (d : Cut). (stop_of x ≤ d.at) ⊎ (end_of d + 8 ≤ (table_of x).at)) (map (cut_in b) u.cuts.items) → AllByRecursion (λ (k : CutAt). IsClear k x) (sizes f n ++ u.cuts.items)
      low_spans x low clear = front (eqb n f.size)
        where
          all : (xs : List CutAt) → AllByRecursion (λ (d : Cut). (stop_of x ≤ d.at) ⊎ (end_of d + 8 ≤ (table_of x).at)) (map (cut_in b) xs) → AllByRecursion (λ (k : CutAt). IsClear k x) xs
          all [] h = tt
          all (k ∷ xs) h = (one h.0, all xs h.1)
            where
              one : (stop_of x ≤ k.span.at) ⊎ (k.span.at + k.span.len + 8 ≤ (table_of x).at) → IsClear k x
              one (inl le) = inl le
              one (inr le) = inr (omega (arith, le), omega (arith, le))

          front : (t : Bool) → AllByRecursion (λ (k : CutAt). IsClear k x) (cond t [] (size_at false n ∷ []) ++ u.cuts.items)
          front true = all u.cuts.items clear
          front false = (inr (omega (arith, low), omega (arith, low)), all u.cuts.items clear)

      clear : AllByRecursion (λ (k : CutAt). AllByRecursion (IsClear k) (tables_in b)) (sizes f n ++ u.cuts.items)
      clear =
          flip (λ (x : Tabled) (k : CutAt). IsClear k x) (tables_in b) (sizes f n ++ u.cuts.items)
          (each_table (λ (x : Tabled). AllByRecursion (λ (k : CutAt). IsClear k x) (sizes f n ++ u.cuts.items)) b
          (λ t i. let q = index_apart b bytes s c short (map (cut_in b) u.cuts.items) comes.cuts_are fits.fit t i in low_spans (index t) q.low q.clear)
          (λ x i. let q = old_apart b bytes s c short (map (cut_in b) u.cuts.items) comes.cuts_are fits.fit x i in low_spans (old (stood.table_of x)) q.low q.clear))

      -- the size that stands there
      size_stood : n ≡ f.size → IsStill b (size_cut (length (inner (children_after (avi_of b) (all_changes b e)) (avi_of b).left)))
      size_stood same =
          let k = length (inner a.children a.left) in
          let new : length (inner (children_after a c) a.left) ≡ k = omega (arith, comes.size, same, known.size) in
          let rest = inner a.children a.left ++ a.pad in
          ap (to_le_bytes w32) new
          ∙ sym (
          ap (λ (x : List ℕ). take 4 (drop 4 x)) (is_file b bytes s ∙ regroup (codes "RIFF") (to_le_bytes w32 k) rest (Rattle.avi_model.specs.Avi.behind a))
          ∙ take_at (to_le_bytes w32 k) (rest ++ Rattle.avi_model.specs.Avi.behind a) 4 refl
          )
        where
          regroup : (h m r t : List ℕ) → (h ++ (m ++ r)) ++ t ≡ h ++ (m ++ (r ++ t))
          regroup h m r t = simp append_assoc

      size_in : cut_in b (size_at false n) ≡ size_cut (length (inner (children_after (avi_of b) (all_changes b e)) (avi_of b).left))
      size_in = ap (λ (x : List ℕ). record { at = 4; len = 4; bytes = x }) (append-nil (to_le_bytes w32 n)) ∙ ap size_cut comes.size

      spans_drop : Drops b (size_cut (length (inner (children_after (avi_of b) (all_changes b e)) (avi_of b).left)) ∷ joined_cuts (avi_of b) (all_changes b e)) (map (cut_in b) (sizes f n ++ u.cuts.items))
      spans_drop = go (eqb n f.size) refl
        where
          go : (t : Bool) → eqb n f.size ≡ t → Drops b (size_cut (length (inner (children_after (avi_of b) (all_changes b e)) (avi_of b).left)) ∷ joined_cuts (avi_of b) (all_changes b e)) (map (cut_in b) (cond t [] (size_at false n ∷ []) ++ u.cuts.items))
          go true i = inl (size_stood (eqb-true n f.size i), comes.cuts_are)
          go false i = inr (map (cut_in b) u.cuts.items, ap (λ (d : Cut). d ∷ map (cut_in b) u.cuts.items) size_in, comes.cuts_are)

      -- with the tables
      made : splice b (put_cuts (table_cuts how b) (map (cut_in b) (sizes f n ++ u.cuts.items))) ≡ file_after b e
      made =
          let first_cut = size_cut (length (inner (children_after a c) a.left)) in
          let tabs = table_cuts how b in
          let low : AllByRecursion (λ (d : Cut). first_cut.at < end_of d) tabs = all_tables b bytes s how (λ (d : Cut). first_cut.at < end_of d) (λ t i. low_index t i) (λ x i. omega arith) in
          let whole : put_cuts tabs (first_cut ∷ joined_cuts a c) ≡ after_cuts b c = puts_behind first_cut tabs (joined_cuts a c) low in
          let asc : Ascend 0 (put_cuts tabs (first_cut ∷ joined_cuts a c)) (length b) = subst (λ (cs : List Cut). Ascend 0 cs (length b)) (sym whole) is_splice.ascend in
          sym (drops_splice b (put_cuts tabs (first_cut ∷ joined_cuts a c)) (put_cuts tabs (map (cut_in b) ks)) asc (drops_puts b tabs 0 (length b) (first_cut ∷ joined_cuts a c) (map (cut_in b) ks) asc spans_drop))
          ∙ ap (splice b) whole ∙ sym is_splice.spliced
        where
          low_index : (t : Table) → Among t (indexes b) → 4 < t.at + length (Rattle.opendml_index.specs.Index.index_body (move (goes (avi_of b) (all_changes b e))) t.body)
          low_index t i = let q = index_apart b bytes s c short (map (cut_in b) u.cuts.items) comes.cuts_are fits.fit t i in omega (arith, q.low)

      pub makes : (order : SpansAscend 8 u.cuts.items f.len) → AllByRecursion (IsNamed ms b) (flat_map (changes_of ms (base b)) (tables_in b))
          → splice b (merged ms b (sizes f n ++ u.cuts.items) (flat_map (changes_of ms (base b)) (tables_in b))) ≡ file_after b e
      makes order named =
          among_spans b bytes s ms ks (subst (λ (l : ℕ). SpansAscend 0 ks l) known.len (sizes_ascend f n f.len u.cuts.items order)) clear named
          ∙ ap (λ (cs : List Cut). splice b (put_cuts cs (map (cut_in b) ks))) (cuts_agree b bytes s (moved ms) (goes a c) goes_there) ∙ made

      -- ---- in place or not

      patches_are : patches_after b e ≡ patches_of (avi_of b) (all_changes b e)
      patches_are = ap (λ (t : Bool). cond t [] (patches_of a c)) effect

      new_is : length (file_after b e) ≡ spliced_len f.len (sizes f n ++ u.cuts.items)
      new_is = ap length file_is ∙ sym comes.long

      in_place : room_after b e ≡ true → MakeInPlace b (file_after b e) (patches_after b e)
      in_place room = is_avi_kind.in_place b e bytes ((names_exact b).1 sup) small room

      pub form_told : (p : Plan) → CanRun p → Units.IsPlanOf u.fits f.len (spliced_len f.len (sizes f n ++ u.cuts.items)) (placed_patches (sizes f n ++ u.cuts.items)) p → IsForm avi_kind b e p
      form_told (InPlace k m qs) can h =
          let ps : qs ≡ patches_after b e = h.3 ∙ comes.patches h.0 ∙ sym patches_are in
          let few : all_bytes (patches_of a c) ≤ 2 ^ 24 = omega (arith, can.rules.small, ap all_bytes ps, ap all_bytes patches_are) in (
            both_true (names_fit a c.names && lists_fit a c) (leb (all_bytes (patches_of a c)) (2 ^ 24)) (sym comes.fits ∙ h.0) (le-leb (all_bytes (patches_of a c)) (2 ^ 24) few),
            h.1 ∙ known.len,
            h.2 ∙ sym new_is,
            ps,
          )
      form_told (Rewrite m moves segments) can h = ((λ room. by room h.0), h.1 ∙ sym new_is)
        where
          by : room_after b e ≡ true → (u.fits ≡ false) ⊎ IsTooMuch (placed_patches (sizes f n ++ u.cuts.items)) → ⊥
          by room (inl unfit) =
              let p = and_parts (names_fit a c.names && lists_fit a c) (leb (all_bytes (patches_of a c)) (2 ^ 24)) room in
              let fit : u.fits ≡ true = comes.fits ∙ p.0 in
              absurd cc
          by room (inr (inl many)) =
              let p = and_parts (names_fit a c.names && lists_fit a c) (leb (all_bytes (patches_of a c)) (2 ^ 24)) room in
              let ps = comes.patches (comes.fits ∙ p.0) ∙ sym patches_are in
              absurd (omega (arith, many, ap (λ (x : List Patch). length x) ps, (in_place room).few))
          by room (inr (inr much)) =
              let p = and_parts (names_fit a c.names && lists_fit a c) (leb (all_bytes (patches_of a c)) (2 ^ 24)) room in
              let ps = comes.patches (comes.fits ∙ p.0) in
              absurd (omega (arith, much, ap all_bytes ps, leb-true (all_bytes (patches_of a c)) (2 ^ 24) p.1))

      -- what a plan makes
      pub applied_is : (p : Plan) → (order : SpansAscend 8 u.cuts.items f.len) → AllByRecursion (IsNamed ms b) (flat_map (changes_of ms (base b)) (tables_in b)) → IsForm avi_kind b e p
          → Makes p b (merged ms b (sizes f n ++ u.cuts.items) (flat_map (changes_of ms (base b)) (tables_in b))) → applied p b ≡ file_after b e
      applied_is (InPlace k m qs) order named form make =
          ap (λ (j : ℕ). Rattle.part_tree.specs.Patches.laid j qs b) form.2 ∙ ap (λ (ps : List Patch). Rattle.part_tree.specs.Patches.laid (length (file_after b e)) ps b) form.3 ∙ (in_place form.0).makes
      applied_is (Rewrite m moves segments) order named form make = make ∙ makes order named
