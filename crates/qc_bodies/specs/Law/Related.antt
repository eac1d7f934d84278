-- What expressions come to in two ways of making values is related where the makers keep the relation.
use Rattle.std.proofs.Common.{◌≡◌, ℕ, Bool, true, false, List, [], ◌∷◌, ◌++◌, length, map, slice_get, Option, None, Some, refl, sym, ap, eqb-true}
use Rattle.std.specs.Prelude.{nat_eq, zero, suc}
use Rattle.std.specs.List.{AllZip}
use Rattle.std.specs.Option.{option_map}
use Rattle.qc_words.specs.declared.operator.Op.{Op}
use Rattle.qc_bodies.specs.declared.act.Target.{Target}
use Rattle.qc_bodies.specs.declared.tree.Callee.{Callee}
use Rattle.qc_bodies.specs.declared.tree.Callee.TheVariants as callee
use Rattle.qc_bodies.specs.declared.tree.Leaf as sort_of_leaf
use Rattle.qc_bodies.specs.declared.tree.Wrap as sort_of_wrap
use Rattle.qc_bodies.specs.Trees.{Core, Sort, one, many, Leaf, Absent, Param, Wrap, Operate, Use, Apply, none, more}
use Rattle.qc_bodies.specs.Law.Acts.{Act, Body, Assign, Uses, Function, Effects, Goal}
use Rattle.qc_bodies.specs.Law.Acts as acts
use Rattle.qc_bodies.specs.Meanings.{Algebra, Fun, Change, Pc, Out, Halt, Trap, Memory, Register, Done, Meaning, Val, value, operated, operands_of, nowhere, value_or, used, fun_of, uses, under, change_of, target_of, done_of, all_done, meaning_of, meanings_after, meanings}

abbrev pub RelOption : {V W : Type 0} → (V → W → Type 0) → Option V → Option W → Type 0
RelOption R None None = Unit {0}
RelOption R None (Some w) = ⊥
RelOption R (Some v) None = ⊥
RelOption R (Some v) (Some w) = R v w

abbrev pub RelFun : {V W : Type 0} → (V → W → Type 0) → Fun V → Fun W → Type 0
RelFun {V} {W} R f g = (token : ℕ) (vs : List V) (ws : List W) → AllZip R vs ws → R (f token vs) (g token ws)

pub data RelChange {V W : Type 0} (R : V → W → Type 0) : Change V → Change W → Type 0 where
  pc : RelChange R Pc Pc
  out : RelChange R Out Out
  halt : RelChange R Halt Halt
  trap : RelChange R Trap Trap
  memory : (width : Option ℕ) {v : V} {w : W} → R v w → RelChange R (Memory width v) (Memory width w)
  register : (target : Option Target) → RelChange R (Register target) (Register target)

pub record RelDone {V W : Type 0} (R : V → W → Type 0) (d : Done V) (e : Done W) : Type 0 where
  pub guards : AllZip R d.guards e.guards
  pub to : RelChange R d.to e.to
  pub value : R d.value e.value

pub record RelMeaning {V W : Type 0} (R : V → W → Type 0) (m : Meaning V) (n : Meaning W) : Type 0 where
  pub value : (fs : List (Fun V)) (gs : List (Fun W)) → AllZip (RelFun R) fs gs → (vs : List V) (ws : List W) → AllZip R vs ws
      → R (m.value fs vs) (n.value gs ws)
  pub does : (fs : List (Fun V)) (gs : List (Fun W)) → AllZip (RelFun R) fs gs → (ts : List (Option Target))
      → (vs : List V) (ws : List W) → AllZip R vs ws → AllZip (RelDone R) (m.does fs ts vs) (n.does gs ts ws)

-- The makers keep the relation. An operator has as many operands as it wants.
pub record RelAlgebra {V W : Type 0} (R : V → W → Type 0) (a : Algebra V) (b : Algebra W) : Type 0 where
  pub leaf : (token : ℕ) (leaf : sort_of_leaf.Leaf) (width : Option ℕ) → R (a.leaf token leaf width) (b.leaf token leaf width)
  pub absent : (token : ℕ) → R (a.absent token) (b.absent token)
  pub wrap : (token : ℕ) (wrap : sort_of_wrap.Wrap) (width : Option ℕ) (v : V) (w : W) → R v w
      → R (a.wrap token wrap width v) (b.wrap token wrap width w)
  pub operate : (token : ℕ) (op : Op) (vs : List V) (ws : List W) → operands_of op ≡ length vs → AllZip R vs ws
      → R (a.operate token op vs) (b.operate token op ws)

abbrev pub RelVal : {V W : Type 0} → (V → W → Type 0) → (s : Sort) → Val V s → Val W s → Type 0
RelVal R one v w = R v w
RelVal R many vs ws = AllZip R vs ws

-- lists that are related are equally long, and so are their elements at a place
pub related_length : {V W : Type 0} (R : V → W → Type 0) (vs : List V) (ws : List W) → AllZip R vs ws → length vs ≡ length ws
related_length R [] [] r = refl
related_length R [] (w ∷ ws) r = absurd r
related_length R (v ∷ vs) [] r = absurd r
related_length R (v ∷ vs) (w ∷ ws) r = ap suc (related_length R vs ws r.1)

pub related_get : {V W : Type 0} (R : V → W → Type 0) (vs : List V) (ws : List W) (k : ℕ) → AllZip R vs ws
    → RelOption R (slice_get vs k) (slice_get ws k)
related_get R [] [] k r = tt
related_get R [] (w ∷ ws) k r = absurd r
related_get R (v ∷ vs) [] k r = absurd r
related_get R (v ∷ vs) (w ∷ ws) zero r = r.0
related_get R (v ∷ vs) (w ∷ ws) (suc k) r = related_get R vs ws k r.1

pub related_append : {V W : Type 0} (R : V → W → Type 0) (vs : List V) (ws : List W) (us : List V) (xs : List W)
    → AllZip R vs ws → AllZip R us xs → AllZip R (vs ++ us) (ws ++ xs)
related_append R [] [] us xs r s = s
related_append R [] (w ∷ ws) us xs r s = absurd r
related_append R (v ∷ vs) [] us xs r s = absurd r
related_append R (v ∷ vs) (w ∷ ws) us xs r s = (r.0, related_append R vs ws us xs r.1 s)

-- functions that are related at each element of a list
pub related_map : {A V W : Type 0} (R : V → W → Type 0) (f : A → V) (g : A → W) → ((x : A) → R (f x) (g x)) → (xs : List A)
    → AllZip R (map f xs) (map g xs)
related_map R f g r [] = tt
related_map R f g r (x ∷ xs) = (r x, related_map R f g r xs)

related_or : {V W : Type 0} (R : V → W → Type 0) (v : V) (w : W) → R v w → (o : Option V) (p : Option W) → RelOption R o p
    → R (value_or v o) (value_or w p)
related_or R v w r None None q = r
related_or R v w r None (Some y) q = absurd q
related_or R v w r (Some x) None q = absurd q
related_or R v w r (Some x) (Some y) q = q

related_nowhere : {V W : Type 0} (R : V → W → Type 0) (a : Algebra V) (b : Algebra W) → RelAlgebra R a b
    → RelFun R (nowhere a) (nowhere b)
related_nowhere R a b r token vs ws q = r.absent token

related_cond : {V W : Type 0} (R : V → W → Type 0) (a : Algebra V) (b : Algebra W) → RelAlgebra R a b
    → (token : ℕ) (op : Op) (vs : List V) (ws : List W) → AllZip R vs ws
    → (fits : Bool) → nat_eq (operands_of op) (length vs) ≡ fits → nat_eq (operands_of op) (length ws) ≡ fits
    → R (operated a token op vs) (operated b token op ws)
related_cond R a b r token op vs ws q true e f =
    rw e (rw f (r.operate token op vs ws (eqb-true (operands_of op) (length vs) e) q))
related_cond R a b r token op vs ws q false e f = rw e (rw f (r.absent token))

pub related_operated : {V W : Type 0} (R : V → W → Type 0) (a : Algebra V) (b : Algebra W) → RelAlgebra R a b
    → (token : ℕ) (op : Op) (vs : List V) (ws : List W) → AllZip R vs ws → R (operated a token op vs) (operated b token op ws)
related_operated R a b r token op vs ws q =
    related_cond R a b r token op vs ws q (nat_eq (operands_of op) (length vs)) refl
    (ap (nat_eq (operands_of op)) (sym (related_length R vs ws q)))

pub related_used : {V W : Type 0} (R : V → W → Type 0) (a : Algebra V) (b : Algebra W) → RelAlgebra R a b
    → (token : ℕ) (m : Option (Meaning V)) (n : Option (Meaning W)) → RelOption (RelMeaning R) m n
    → (fs : List (Fun V)) (gs : List (Fun W)) → AllZip (RelFun R) fs gs → (vs : List V) (ws : List W) → AllZip R vs ws
    → R (used a token m fs vs) (used b token n gs ws)
related_used R a b r token None None q fs gs p vs ws o = r.absent token
related_used R a b r token None (Some n) q fs gs p vs ws o = absurd q
related_used R a b r token (Some m) None q fs gs p vs ws o = absurd q
related_used R a b r token (Some m) (Some n) q fs gs p vs ws o = q.value fs gs p vs ws o

pub related_fun : {V W : Type 0} (R : V → W → Type 0) (a : Algebra V) (b : Algebra W) → RelAlgebra R a b
    → (ms : List (Meaning V)) (ns : List (Meaning W)) → AllZip (RelMeaning R) ms ns
    → (fs : List (Fun V)) (gs : List (Fun W)) → AllZip (RelFun R) fs gs
    → (c : Callee) → RelFun R (fun_of a ms fs c) (fun_of b ns gs c)
related_fun R a b r ms ns q fs gs p callee.Nowhere token vs ws o = r.absent token
related_fun R a b r ms ns q fs gs p (callee.Operator op) token vs ws o = related_operated R a b r token op vs ws o
related_fun R a b r ms ns q fs gs p (callee.Declared k) token vs ws o =
    related_used R a b r token (slice_get ms k) (slice_get ns k) (related_get (RelMeaning R) ms ns k q) [] [] tt vs ws o
related_fun R a b r ms ns q fs gs p (callee.Given k) token vs ws o =
    related_or (RelFun R) (nowhere a) (nowhere b) (related_nowhere R a b r) (slice_get fs k) (slice_get gs k)
    (related_get (RelFun R) fs gs k p) token vs ws o

-- of one expression, or of several
pub related_value : {V W : Type 0} (R : V → W → Type 0) (a : Algebra V) (b : Algebra W) → RelAlgebra R a b
    → (ms : List (Meaning V)) (ns : List (Meaning W)) → AllZip (RelMeaning R) ms ns
    → (fs : List (Fun V)) (gs : List (Fun W)) → AllZip (RelFun R) fs gs
    → (vs : List V) (ws : List W) → AllZip R vs ws
    → {s : Sort} (e : Core s) → RelVal R s (value a ms fs vs e) (value b ns gs ws e)
related_value R a b r ms ns q fs gs p vs ws o (Leaf token leaf width) = r.leaf token leaf width
related_value R a b r ms ns q fs gs p vs ws o (Absent token) = r.absent token
related_value R a b r ms ns q fs gs p vs ws o (Param k) =
    related_or R (a.absent 0) (b.absent 0) (r.absent 0) (slice_get vs k) (slice_get ws k) (related_get R vs ws k o)
related_value R a b r ms ns q fs gs p vs ws o (Wrap token wrap width part) =
    r.wrap token wrap width _ _ (related_value R a b r ms ns q fs gs p vs ws o part)
related_value R a b r ms ns q fs gs p vs ws o (Operate token op args) =
    related_operated R a b r token op _ _ (related_value R a b r ms ns q fs gs p vs ws o args)
related_value R a b r ms ns q fs gs p vs ws o (Use token k callees args) =
    related_used R a b r token (slice_get ms k) (slice_get ns k) (related_get (RelMeaning R) ms ns k q)
    _ _ (related_map (RelFun R) (fun_of a ms fs) (fun_of b ns gs) (related_fun R a b r ms ns q fs gs p) callees)
    _ _ (related_value R a b r ms ns q fs gs p vs ws o args)
related_value R a b r ms ns q fs gs p vs ws o (Apply token k args) =
    related_or (RelFun R) (nowhere a) (nowhere b) (related_nowhere R a b r) (slice_get fs k) (slice_get gs k)
    (related_get (RelFun R) fs gs k p) token _ _ (related_value R a b r ms ns q fs gs p vs ws o args)
related_value R a b r ms ns q fs gs p vs ws o none = tt
related_value R a b r ms ns q fs gs p vs ws o (more e es) =
    (related_value R a b r ms ns q fs gs p vs ws o e, related_value R a b r ms ns q fs gs p vs ws o es)

-- of effects
related_under : {V W : Type 0} (R : V → W → Type 0) (g : Option V) (h : Option W) → RelOption R g h
    → (ds : List (Done V)) (es : List (Done W)) → AllZip (RelDone R) ds es → AllZip (RelDone R) (under g ds) (under h es)
related_under R None None q ds es r = r
related_under R None (Some h) q ds es r = absurd q
related_under R (Some g) None q ds es r = absurd q
related_under R (Some g) (Some h) q [] [] r = tt
related_under R (Some g) (Some h) q [] (e ∷ es) r = absurd r
related_under R (Some g) (Some h) q (d ∷ ds) [] r = absurd r
related_under R (Some g) (Some h) q (d ∷ ds) (e ∷ es) r =
    (record { guards = (q, r.0.guards); to = r.0.to; value = r.0.value }, related_under R (Some g) (Some h) q ds es r.1)

related_uses : {V W : Type 0} (R : V → W → Type 0) (m : Option (Meaning V)) (n : Option (Meaning W)) → RelOption (RelMeaning R) m n
    → (fs : List (Fun V)) (gs : List (Fun W)) → AllZip (RelFun R) fs gs → (ts : List (Option Target))
    → (vs : List V) (ws : List W) → AllZip R vs ws
    → AllZip (RelDone R) (uses m fs ts vs) (uses n gs ts ws)
related_uses R None None q fs gs p ts vs ws o = tt
related_uses R None (Some n) q fs gs p ts vs ws o = absurd q
related_uses R (Some m) None q fs gs p ts vs ws o = absurd q
related_uses R (Some m) (Some n) q fs gs p ts vs ws o = q.does fs gs p ts vs ws o

related_option_map : {A V W : Type 0} (R : V → W → Type 0) (f : A → V) (g : A → W) → ((x : A) → R (f x) (g x)) → (o : Option A)
    → RelOption R (option_map f o) (option_map g o)
related_option_map R f g r None = tt
related_option_map R f g r (Some x) = r x

related_change : {V W : Type 0} (R : V → W → Type 0) (f : Core one → V) (g : Core one → W) → ((e : Core one) → R (f e) (g e))
    → (ts : List (Option Target)) (to : Goal) → RelChange R (change_of f ts to) (change_of g ts to)
related_change R f g r ts acts.Pc = pc
related_change R f g r ts acts.Out = out
related_change R f g r ts acts.Halt = halt
related_change R f g r ts acts.Trap = trap
related_change R f g r ts (acts.Memory width address) = memory width (r address)
related_change R f g r ts (acts.Register aim) = register (target_of ts aim)

pub related_act : {V W : Type 0} (R : V → W → Type 0) (a : Algebra V) (b : Algebra W) → RelAlgebra R a b
    → (ms : List (Meaning V)) (ns : List (Meaning W)) → AllZip (RelMeaning R) ms ns
    → (fs : List (Fun V)) (gs : List (Fun W)) → AllZip (RelFun R) fs gs → (ts : List (Option Target))
    → (vs : List V) (ws : List W) → AllZip R vs ws
    → (act : Act) → AllZip (RelDone R) (done_of a ms fs ts vs act) (done_of b ns gs ts ws act)
related_act R a b r ms ns q fs gs p ts vs ws o (Assign guard to of) =
    let each : (e : Core one) → R (value a ms fs vs e) (value b ns gs ws e) = λ e. related_value R a b r ms ns q fs gs p vs ws o e in
    related_under R _ _ (related_option_map R (value a ms fs vs) (value b ns gs ws) each guard) _ _ (
      record { guards = tt; to = related_change R (value a ms fs vs) (value b ns gs ws) each ts to; value = each of },
      tt,
    )
related_act R a b r ms ns q fs gs p ts vs ws o (Uses guard k callees aims args) =
    let each : (e : Core one) → R (value a ms fs vs e) (value b ns gs ws e) = λ e. related_value R a b r ms ns q fs gs p vs ws o e in
    related_under R _ _ (related_option_map R (value a ms fs vs) (value b ns gs ws) each guard) _ _
    (related_uses R (slice_get ms k) (slice_get ns k) (related_get (RelMeaning R) ms ns k q)
    _ _ (related_map (RelFun R) (fun_of a ms fs) (fun_of b ns gs) (related_fun R a b r ms ns q fs gs p) callees)
    (map (target_of ts) aims) _ _ (related_value R a b r ms ns q fs gs p vs ws o args))

pub related_done : {V W : Type 0} (R : V → W → Type 0) (a : Algebra V) (b : Algebra W) → RelAlgebra R a b
    → (ms : List (Meaning V)) (ns : List (Meaning W)) → AllZip (RelMeaning R) ms ns
    → (fs : List (Fun V)) (gs : List (Fun W)) → AllZip (RelFun R) fs gs → (ts : List (Option Target))
    → (vs : List V) (ws : List W) → AllZip R vs ws
    → (acts : List Act) → AllZip (RelDone R) (all_done a ms fs ts vs acts) (all_done b ns gs ts ws acts)
related_done R a b r ms ns q fs gs p ts vs ws o [] = tt
related_done R a b r ms ns q fs gs p ts vs ws o (act ∷ acts) =
    related_append (RelDone R) _ _ _ _ (related_act R a b r ms ns q fs gs p ts vs ws o act)
    (related_done R a b r ms ns q fs gs p ts vs ws o acts)

-- of all that is declared
related_meaning : {V W : Type 0} (R : V → W → Type 0) (a : Algebra V) (b : Algebra W) → RelAlgebra R a b
    → (ms : List (Meaning V)) (ns : List (Meaning W)) → AllZip (RelMeaning R) ms ns
    → (body : Body) → RelMeaning R (meaning_of a ms body) (meaning_of b ns body)
related_meaning R a b r ms ns q (Function e) = record {
  value = λ fs gs p vs ws o. related_value R a b r ms ns q fs gs p vs ws o e;
  does = λ fs gs p ts vs ws o. tt;
}
related_meaning R a b r ms ns q (Effects acts) = record {
  value = λ fs gs p vs ws o. r.absent 0;
  does = λ fs gs p ts vs ws o. related_done R a b r ms ns q fs gs p ts vs ws o acts;
}

pub related_after : {V W : Type 0} (R : V → W → Type 0) (a : Algebra V) (b : Algebra W) → RelAlgebra R a b
    → (ms : List (Meaning V)) (ns : List (Meaning W)) → AllZip (RelMeaning R) ms ns
    → (bodies : List Body) → AllZip (RelMeaning R) (meanings_after a ms bodies) (meanings_after b ns bodies)
related_after R a b r ms ns q [] = q
related_after R a b r ms ns q (body ∷ bodies) =
    related_after R a b r (ms ++ meaning_of a ms body ∷ []) (ns ++ meaning_of b ns body ∷ [])
    (related_append (RelMeaning R) ms ns _ _ q (related_meaning R a b r ms ns q body, tt)) bodies

pub related_meanings : {V W : Type 0} (R : V → W → Type 0) (a : Algebra V) (b : Algebra W) → RelAlgebra R a b
    → (bodies : List Body) → AllZip (RelMeaning R) (meanings a bodies) (meanings b bodies)
related_meanings R a b r bodies = related_after R a b r [] [] tt bodies
