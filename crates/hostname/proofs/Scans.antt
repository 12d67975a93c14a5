-- One pass over a name tells whether it is well formed.
use Rattle.std.proofs.Common.{◌≡◌, ℕ, suc, ◌+◌, ◌<◌, ◌≤◌, Bool, true, false, cond, not, ◌&&◌, ◌||◌, eqb, ltb, leb, List, [], ◌∷◌, length, Some, None, Option, MatchOption, Bor, sym, refl, ap, subst, ◌∙◌, ⊎_elim, add-zero, zero-add, arith}
use Rattle.std.proofs.Math.Bool.{and-true}
use Rattle.std.proofs.lemmas.Bool.{cases_lt, cond-true, cond-false, lt-ltb, le-ltb, le-leb, lt-leb, ne_eqb}
use Rattle.std.proofs.lemmas.Bool.Decides.{nat_tests}
use Rattle.std.proofs.lemmas.List.{nil_from_length}
use Rattle.std.specs.ControlFlow.{continue_value}
use Rattle.std.specs.Fn.{Called, Mut}
use Rattle.std.specs.Iterator.{Yields, TryFoldTurn, TryFoldsItems}
use Rattle.std.specs.List.{FoldsTo}
use Rattle.std.specs.Slice.Iter.{iter_steps, iter_rest}
use Rattle.std.specs.declared.ops.ControlFlow.{ControlFlow}
use Rattle.std.specs.declared.slice.Iter.{Iter}
use Rattle.hostname.specs.Names.{is_letter, is_digit, is_hyphen, is_dot, is_label_byte, all, hyphen_first, hyphen_last, is_label, with_first, labels, well_formed}
use Rattle.hostname.specs.Scan.{nothing_read, may_end, longer, past_dot, in_label, after}
use Rattle.hostname.specs.declared.label.Label.{Label}

-- what a test says of a value, and false where there is none
abbrev pub goes_on : Option Label → (Label → Bool) → Bool
goes_on None test = false
goes_on (Some l) test = test l

-- whether bytes may follow what has been read
abbrev pub scan : Label → List ℕ → Bool
scan l [] = may_end l
scan l (c ∷ cs) = goes_on (after l c) (λ m. scan m cs)

-- whether the last byte is a hyphen, where the byte before the list is one or not
abbrev last_after : Bool → List ℕ → Bool
last_after h [] = h
last_after h (c ∷ cs) = last_after (is_hyphen c) cs

-- whether bytes go on a label that has n bytes already
abbrev is_rest : ℕ → Bool → List ℕ → Bool
is_rest n h l =
    leb 1 (n + length l) && leb (n + length l) 63 && all is_label_byte l && not (eqb n 0 && hyphen_first l) && not (last_after h l)

-- whether the first of a list goes on such a label, and each other is a label
abbrev are_rest : ℕ → Bool → List (List ℕ) → Bool
are_rest n h [] = is_rest n h []
are_rest n h (l ∷ ls) = is_rest n h l && all is_label ls

-- a label of which nothing is read yet

last_after_none : (c : ℕ) (cs : List ℕ) → last_after (is_hyphen c) cs ≡ hyphen_last (c ∷ cs)
last_after_none c [] = refl
last_after_none c (d ∷ cs) = last_after_none d cs

last_of : (l : List ℕ) → last_after false l ≡ hyphen_last l
last_of [] = refl
last_of (c ∷ cs) = last_after_none c cs

rest_of_none : (l : List ℕ) → is_rest 0 false l ≡ is_label l
rest_of_none l =
    ap (λ n. leb 1 n && leb n 63 && all is_label_byte l && not (hyphen_first l) && not (last_after false l)) (zero-add (length l))
    ∙ ap (λ t. leb 1 (length l) && leb (length l) 63 && all is_label_byte l && not (hyphen_first l) && not t) (last_of l)

start-with_first : (c : ℕ) (ls : List (List ℕ)) → are_rest 0 false (with_first c ls) ≡ all is_label (with_first c ls)
start-with_first c [] = ap (λ t. t && true) (rest_of_none (c ∷ []))
start-with_first c (l ∷ ls) = ap (λ t. t && all is_label ls) (rest_of_none (c ∷ l))

start-at : (dot : Bool) (c : ℕ) (cs : List ℕ) → are_rest 0 false (cond dot ([] ∷ labels cs) (with_first c (labels cs))) ≡ all is_label (cond dot ([] ∷ labels cs) (with_first c (labels cs)))
start-at true c cs = refl
start-at false c cs = start-with_first c (labels cs)

start_of : (bs : List ℕ) → are_rest 0 false (labels bs) ≡ all is_label (labels bs)
start_of [] = refl
start_of (c ∷ cs) = start-at (is_dot c) c cs

-- one byte more of a label

shuffled : (a b x y w z : Bool) → (a && b && (x && y) && w && z) ≡ (x && w && (a && b && y && true && z))
shuffled a b x y w z = grind arith

rest_more : (n : ℕ) (h : Bool) (c : ℕ) (l : List ℕ) → is_rest n h (c ∷ l) ≡ (is_label_byte c && not (eqb n 0 && is_hyphen c) && is_rest (n + 1) (is_hyphen c) l)
rest_more n h c l =
    let e : n + suc (length l) ≡ n + 1 + length l = omega arith in
    let f : eqb (n + 1) 0 ≡ false = ne_eqb (n + 1) 0 (λ z. omega arith) in
    let w = not (eqb n 0 && is_hyphen c) in
    let z = not (last_after (is_hyphen c) l) in
    ap (λ m. leb 1 m && leb m 63 && (is_label_byte c && all is_label_byte l) && w && z) e
    ∙ shuffled (leb 1 (n + 1 + length l)) (leb (n + 1 + length l) 63) (is_label_byte c) (all is_label_byte l) w z
    ∙ ap (λ t. is_label_byte c && w && (leb 1 (n + 1 + length l) && leb (n + 1 + length l) 63 && all is_label_byte l && not (t && hyphen_first l) && z)) (sym f)

regrouped : (a b c d : Bool) → (a && b && c && d) ≡ (a && b && (c && d))
regrouped a b c d = grind arith

are_more : (n : ℕ) (h : Bool) (c : ℕ) (ls : List (List ℕ)) → are_rest n h (with_first c ls) ≡ (is_label_byte c && not (eqb n 0 && is_hyphen c) && are_rest (n + 1) (is_hyphen c) ls)
are_more n h c [] = and-true (is_rest n h (c ∷ [])) ∙ rest_more n h c []
are_more n h c (l ∷ ls) =
    ap (λ t. t && all is_label ls) (rest_more n h c l)
    ∙ regrouped (is_label_byte c) (not (eqb n 0 && is_hyphen c)) (is_rest (n + 1) (is_hyphen c) l) (all is_label ls)

-- a label of more than 63 bytes

third_false : (a x y z : Bool) → (a && false && x && y && z) ≡ false
third_false a x y z = grind arith

rest_long : (n : ℕ) (h : Bool) (l : List ℕ) → 63 < n → is_rest n h l ≡ false
rest_long n h l long =
    let f : leb (n + length l) 63 ≡ false = lt-leb (n + length l) 63 (omega arith) in
    ap (λ t. leb 1 (n + length l) && t && all is_label_byte l && not (eqb n 0 && hyphen_first l) && not (last_after h l)) f
    ∙ third_false (leb 1 (n + length l)) (all is_label_byte l) (not (eqb n 0 && hyphen_first l)) (not (last_after h l))

are_long : (n : ℕ) (h : Bool) (ls : List (List ℕ)) → 63 < n → are_rest n h ls ≡ false
are_long n h [] long = rest_long n h [] long
are_long n h (l ∷ ls) long = ap (λ t. t && all is_label ls) (rest_long n h l long)

-- a label that ends

ends_at : (n : ℕ) (h : Bool) → n ≤ 63 → (ltb 0 n && not h) ≡ (leb 1 n && leb n 63 && true && not (eqb n 0 && false) && not h)
ends_at n h few = grind (arith, nat_tests)

rest_ends : (l : Label) → l.len ≤ 63 → may_end l ≡ is_rest l.len l.hyphen []
rest_ends l few =
    ends_at l.len l.hyphen few
    ∙ ap (λ m. leb 1 m && leb m 63 && true && not (eqb l.len 0 && false) && not l.hyphen) (sym (add-zero l.len))

-- the pass agrees with the definition, where it does on what follows the next byte
module _ (l : Label) (few : l.len ≤ 63) (cs : List ℕ) (rest : (m : Label) → m.len ≤ 63 → scan m cs ≡ are_rest m.len m.hyphen (labels cs)) where
  -- the label with one byte more
  abbrev more : Bool → Label
  more hyphen = record { len = l.len + 1; hyphen = hyphen }

  abbrev go : Option Label → Bool
  go o = goes_on o (λ m. scan m cs)

  longer-agrees : (hyphen : Bool) → go (longer l hyphen) ≡ are_rest (l.len + 1) hyphen (labels cs)
  longer-agrees hyphen =
      ⊎_elim
      (λ h. ap go (cond-true (ltb l.len 63) (Some (more hyphen)) None (lt-ltb l.len 63 h)) ∙ rest (more hyphen) (omega arith))
      (λ h. ap go (cond-false (ltb l.len 63) (Some (more hyphen)) None (le-ltb l.len 63 h)) ∙ sym (are_long (l.len + 1) hyphen (labels cs) (omega arith)))
      (cases_lt l.len 63)

  picks : (hyphen none plain : Bool) → go (cond hyphen (cond (not none) (longer l true) None) (cond plain (longer l false) None)) ≡ ((plain || hyphen) && not (none && hyphen) && are_rest (l.len + 1) hyphen (labels cs))
  picks true true true = refl
  picks true true false = refl
  picks true false true = longer-agrees true
  picks true false false = longer-agrees true
  picks false true true = longer-agrees false
  picks false true false = refl
  picks false false true = longer-agrees false
  picks false false false = refl

  byte_agrees : (c : ℕ) → go (in_label l c) ≡ are_rest l.len l.hyphen (with_first c (labels cs))
  byte_agrees c =
      let n : ltb 0 l.len ≡ not (eqb l.len 0) = grind (arith, nat_tests) in
      ap (λ t. go (cond (is_hyphen c) (cond t (longer l true) None) (cond (is_letter c || is_digit c) (longer l false) None))) n
      ∙ picks (is_hyphen c) (eqb l.len 0) (is_letter c || is_digit c)
      ∙ sym (are_more l.len l.hyphen c (labels cs))

  dot_picks : (ends : Bool) → go (cond ends (Some nothing_read) None) ≡ (ends && all is_label (labels cs))
  dot_picks true = rest nothing_read (omega arith) ∙ start_of cs
  dot_picks false = refl

  dot_agrees : go (past_dot l) ≡ are_rest l.len l.hyphen ([] ∷ labels cs)
  dot_agrees = dot_picks (may_end l) ∙ ap (λ t. t && all is_label (labels cs)) (rest_ends l few)

  step_agrees : (dot : Bool) (c : ℕ) → go (cond dot (past_dot l) (in_label l c)) ≡ are_rest l.len l.hyphen (cond dot ([] ∷ labels cs) (with_first c (labels cs)))
  step_agrees true c = dot_agrees
  step_agrees false c = byte_agrees c

pub scan-agrees : (bs : List ℕ) (l : Label) → l.len ≤ 63 → scan l bs ≡ are_rest l.len l.hyphen (labels bs)
scan-agrees [] l few = rest_ends l few ∙ sym (and-true _)
scan-agrees (c ∷ cs) l few = step_agrees l few cs (scan-agrees cs) (is_dot c) c

-- the whole name

whole_name : (bs : List ℕ) → length bs ≤ 253 → all is_label (labels bs) ≡ well_formed bs
whole_name [] few = refl
whole_name (c ∷ cs) few =
    let n = length (c ∷ cs) in
    let t = all is_label (labels (c ∷ cs)) in
    sym (ap (λ a. a && leb n 253 && t) (le-leb 1 n (omega arith)) ∙ ap (λ b. b && t) (le-leb n 253 few))

pub scan_tells : (bs : List ℕ) → length bs ≤ 253 → scan nothing_read bs ≡ well_formed bs
scan_tells bs few = scan-agrees bs nothing_read (omega arith) ∙ start_of bs ∙ whole_name bs few

-- the fold over the bytes of a name, each turn of which reads one byte more

module _ {F : Type 0} (E : Type 0) (g : Mut F (Label × (Bor ℕ × Unit {0})) (Option Label)) (f : F) (reads : (l : Label) (x : Bor ℕ) (r : Option Label) (q : F) → Called g f (l, (x, tt)) r q → (q ≡ f) × (r ≡ after l x.now)) where
  abbrev Branches : Option Label → ControlFlow E Label → Type 0
  Branches r c = r ≡ continue_value c

  -- turns that go on
  scan_kept : (xs : List (Bor ℕ)) (s t : Iter ℕ) (p q : F × Label) → p.0 ≡ f → Yields iter_steps s xs t → FoldsTo (TryFoldTurn g Branches) p xs q → (q.0 ≡ f) × (scan p.1 (iter_rest s) ≡ scan q.1 (iter_rest t))
  scan_kept [] s t p q e y h =
      (sym (ap (λ k. k.0) h) ∙ e, ap (λ k. scan k.1 (iter_rest s)) h ∙ ap (λ i. scan q.1 (iter_rest i)) y)
  scan_kept (x ∷ xs) s t p q e y h =
      let k = reads p.1 x h.1.0 h.0.0 (subst (λ j. Called g j (p.1, (x, tt)) h.1.0 h.0.0) e h.1.1) in
      let n = scan_kept xs y.0 t h.0 q k.0 y.2 h.2 in
      (n.0, ap (scan p.1) y.1 ∙ ap (λ o. goes_on o (λ m. scan m (iter_rest y.0))) (sym k.1 ∙ h.1.2) ∙ n.1)

  -- the end of the name, or a byte that no name has there
  scan_last : (o : Option (Bor ℕ)) (t u : Iter ℕ) (p : F × Label) (r : Option Label) → p.0 ≡ f → iter_steps t o u → MatchOption o (r ≡ Some p.1) (λ x. (v : Option Label) × (q : F) × E × Called g p.0 (p.1, (x, tt)) v q × (v ≡ None) × (r ≡ None)) → goes_on r may_end ≡ scan p.1 (iter_rest t)
  scan_last None t u p r e s h = ap (λ o. goes_on o may_end) h ∙ sym (ap (scan p.1) (nil_from_length (iter_rest t) s.0))
  scan_last (Some x) t u p r e s h =
      let k = reads p.1 x h.0 h.1 (subst (λ j. Called g j (p.1, (x, tt)) h.0 h.1) e h.3) in
      ap (λ o. goes_on o may_end) h.5
      ∙ sym (ap (scan p.1) s ∙ ap (λ o. goes_on o (λ m. scan m (iter_rest u))) (sym k.1 ∙ h.4))

  pub scan_folded : (s u : Iter ℕ) (l : Label) (r : Option Label) → TryFoldsItems iter_steps g Branches (λ _ o. o ≡ None) s f l r u → goes_on r may_end ≡ scan l (iter_rest s)
  scan_folded s u l r d =
      let k = scan_kept d.0 s d.4.0 (f, l) (d.2, d.3) refl d.4.1 d.5 in
      scan_last d.1 d.4.0 u (d.2, d.3) r k.0 d.4.2 d.6 ∙ sym k.1
