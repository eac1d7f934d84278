-- Expressions that get functions, by instances.
use Rattle.std.proofs.Common.{◌≡◌, ◌<◌, ◌≤◌, ℕ, zero, suc, List, [], ◌∷◌, length, map, take, slice_get, Option, None, Some, refl, sym, ◌∙◌, ap, inl, inr, ◌⊎◌, if◌then◌else◌, nat_lt, arith}
use Rattle.std.specs.Option.{option_map}
use Rattle.std.proofs.lemmas.Bool.{cases_lt, lt-ltb, le-ltb}
use Rattle.std.proofs.lemmas.List.{length-map}
use Rattle.std.proofs.lemmas.Option.{slice_get-map, slice_get_past}
use Rattle.qc_bodies.specs.declared.tree.Callee.{Callee}
use Rattle.qc_bodies.specs.declared.tree.Callee.TheVariants as callee
use Rattle.qc_bodies.specs.declared.act.Body as code_body
use Rattle.qc_bodies.specs.declared.act.Body.TheVariants as code
use Rattle.qc_bodies.specs.declared.act.Act as code_act
use Rattle.qc_bodies.specs.declared.tree.Tree.{Tree}
use Rattle.qc_bodies.specs.Law.Acts.{Function, Effects, act_of, body_of}
use Rattle.qc_bodies.specs.Law.Declared.{length_meanings, meaning_at}
use Rattle.qc_bodies.specs.Trees.{Core, one, core_of, several}
use Rattle.qc_bodies.specs.Meanings.{Algebra, Fun, Meaning, fun_of, meanings, nowhere, used, value, value_or}
use Rattle.qc_instances.specs.declared.instance.Instance.{Instance}
use Rattle.qc_instances.specs.Instances.{closed, funs_of, instance_meaning, instance_meanings}
use Rattle.qc_instances.proofs.Lists.{get_past, get_take, get_within}

pub value_each : {V : Type 0} (a : Algebra V) (ms : List (Meaning V)) (fs : List (Fun V)) (vs : List V) (xs : List (Core one))
    → value a ms fs vs (several xs) ≡ map (value a ms fs vs) xs
value_each a ms fs vs [] = refl
value_each a ms fs vs (x ∷ xs) = ap (λ l. value a ms fs vs x ∷ l) (value_each a ms fs vs xs)

-- what a parameter that is a function stands for
given_or : {V : Type 0} (a : Algebra V) (ms : List (Meaning V)) (o : Option Callee)
    → fun_of a ms [] (value_or callee.Nowhere o) ≡ value_or (nowhere a) (option_map (fun_of a ms []) o)
given_or a ms None = refl
given_or a ms (Some c) = refl

pub given_fun : {V : Type 0} (a : Algebra V) (ms : List (Meaning V)) (given : List Callee) (number : ℕ)
    → fun_of a ms [] (value_or callee.Nowhere (slice_get given number)) ≡ value_or (nowhere a) (slice_get (funs_of a ms given) number)
given_fun a ms given number =
    given_or a ms (slice_get given number) ∙ ap (value_or (nowhere a)) (sym (slice_get-map (fun_of a ms []) given number))

-- a function that is handed on
declared_fun : {V : Type 0} (a : Algebra V) (ms : List (Meaning V)) (level number : ℕ) (fs : List (Fun V)) → (number < level) ⊎ (level ≤ number)
    → fun_of a ms [] (if nat_lt number level then callee.Declared number else callee.Nowhere)
    ≡ fun_of a (take level ms) fs (callee.Declared number)
declared_fun a ms level number fs (inl h) =
    ap (λ b. fun_of a ms [] (if b then callee.Declared number else callee.Nowhere)) (lt-ltb number level h)
    ∙ ap (λ o. λ (token : ℕ) (vs : List _). used a token o [] vs) (sym (get_take ms level number h))
declared_fun a ms level number fs (inr h) =
    ap (λ b. fun_of a ms [] (if b then callee.Declared number else callee.Nowhere)) (le-ltb number level h)
    ∙ ap (λ o. λ (token : ℕ) (vs : List _). used a token o [] vs) (sym (get_past ms level number h))

closed_fun : {V : Type 0} (a : Algebra V) (ms : List (Meaning V)) (level : ℕ) (given : List Callee) (c : Callee)
    → fun_of a ms [] (closed level given c) ≡ fun_of a (take level ms) (funs_of a ms given) c
closed_fun a ms level given callee.Nowhere = refl
closed_fun a ms level given (callee.Operator op) = refl
closed_fun a ms level given (callee.Declared number) = declared_fun a ms level number (funs_of a ms given) (cases_lt number level)
closed_fun a ms level given (callee.Given number) = given_fun a ms given number

closed_funs : {V : Type 0} (a : Algebra V) (ms : List (Meaning V)) (level : ℕ) (given callees : List Callee)
    → funs_of a ms (map (closed level given) callees) ≡ map (fun_of a (take level ms) (funs_of a ms given)) callees
closed_funs a ms level given [] = refl
closed_funs a ms level given (c ∷ cs) =
    ap (λ f. f ∷ funs_of a ms (map (closed level given) cs)) (closed_fun a ms level given c)
    ∙ ap (λ l. fun_of a (take level ms) (funs_of a ms given) c ∷ l) (closed_funs a ms level given cs)

-- a use of what is declared
used_there : {V : Type 0} (a : Algebra V) (ms : List (Meaning V)) (number : ℕ) → number < length ms
    → (left right : ℕ) (fs : List (Fun V)) (vs : List V) → used a left (slice_get ms number) fs vs ≡ used a right (slice_get ms number) fs vs
used_there a ms number h left right fs vs =
    let m = get_within ms number h in
    ap (λ o. used a left o fs vs) m.1 ∙ ap (λ o. used a right o fs vs) (sym m.1)

pub used_closed : {V : Type 0} (a : Algebra V) (ms : List (Meaning V)) (level : ℕ) (given callees : List Callee) (token number : ℕ)
    → number < level → level ≤ length ms → (vs : List V)
    → (instance_meaning a ms (record { number = number; given = map (closed level given) callees })).value [] vs
    ≡ used a token (slice_get (take level ms) number) (map (fun_of a (take level ms) (funs_of a ms given)) callees) vs
used_closed a ms level given callees token number h k vs =
    ap (λ fs. used a 0 (slice_get ms number) fs vs) (closed_funs a ms level given callees)
    ∙ (used_there a ms number (omega arith) 0 token (map (fun_of a (take level ms) (funs_of a ms given)) callees) vs
    ∙ ap (λ o. used a token o (map (fun_of a (take level ms) (funs_of a ms given)) callees) vs) (sym (get_take ms level number h)))

pub used_past : {V : Type 0} (a : Algebra V) (ms : List (Meaning V)) (level token number : ℕ) (fs : List (Fun V)) (vs : List V)
    → level ≤ number → a.absent token ≡ used a token (slice_get (take level ms) number) fs vs
used_past a ms level token number fs vs h = ap (λ o. used a token o fs vs) (sym (get_past ms level number h))

-- a use of a function that was handed on
pub used_alone : {V : Type 0} (a : Algebra V) (ms : List (Meaning V)) (token number : ℕ) → number < length ms → (vs : List V)
    → (instance_meaning a ms (record { number = number; given = [] })).value [] vs ≡ fun_of a ms [] (callee.Declared number) token vs
used_alone a ms token number h vs = used_there a ms number h 0 token [] vs

pub used_nowhere : {V : Type 0} (a : Algebra V) (ms : List (Meaning V)) (token number : ℕ) → length ms ≤ number → (vs : List V)
    → a.absent token ≡ fun_of a ms [] (callee.Declared number) token vs
used_nowhere a ms token number h vs = ap (λ o. used a token o [] vs) (sym (slice_get_past ms number h))

-- the instance at a place
pub used_instance : {V : Type 0} (a : Algebra V) (ms : List (Meaning V)) (made : List Instance) (token place : ℕ) (instance : Instance)
    → slice_get made place ≡ Some instance → (vs : List V)
    → used a token (slice_get (instance_meanings a ms made) place) [] vs ≡ (instance_meaning a ms instance).value [] vs
used_instance a ms made token place instance e vs =
    ap (λ o. used a token o [] vs) (slice_get-map (instance_meaning a ms) made place ∙ ap (option_map (instance_meaning a ms)) e)

-- what is declared at a number
pub function_there : {V : Type 0} (a : Algebra V) (bodies : List code_body.Body) (number : ℕ) (e : Tree) → slice_get bodies number ≡ Some (code.Function e)
    → (fs : List (Fun V)) (vs : List V)
    → value a (take number (meanings a (map body_of bodies))) fs vs (core_of e) ≡ used a 0 (slice_get (meanings a (map body_of bodies)) number) fs vs
function_there a bodies number e get fs vs =
    ap (λ o. used a 0 o fs vs) (sym (meaning_at a (map body_of bodies) number (Function (core_of e))
    (slice_get-map body_of bodies number ∙ ap (option_map body_of) get)))

pub effects_there : {V : Type 0} (a : Algebra V) (bodies : List code_body.Body) (number : ℕ) (acts : List code_act.Act) → slice_get bodies number ≡ Some (code.Effects acts)
    → (fs : List (Fun V)) (vs : List V) → a.absent 0 ≡ used a 0 (slice_get (meanings a (map body_of bodies)) number) fs vs
effects_there a bodies number acts get fs vs =
    ap (λ o. used a 0 o fs vs) (sym (meaning_at a (map body_of bodies) number (Effects (map act_of acts))
    (slice_get-map body_of bodies number ∙ ap (option_map body_of) get)))

pub length_declared : {V : Type 0} (a : Algebra V) (bodies : List code_body.Body) → length (meanings a (map body_of bodies)) ≡ length bodies
length_declared a bodies = length_meanings a (map body_of bodies) ∙ length-map bodies body_of

none_past : {A : Type 0} (xs : List A) (number : ℕ) → slice_get xs number ≡ None → length xs ≤ number
none_past [] number e = omega arith
none_past (x ∷ xs) zero e = absurd (cc)
none_past (x ∷ xs) (suc number) e = let h = none_past xs number e in omega arith

pub nothing_there : {V : Type 0} (a : Algebra V) (bodies : List code_body.Body) (number : ℕ) → slice_get bodies number ≡ None
    → (fs : List (Fun V)) (vs : List V) → a.absent 0 ≡ used a 0 (slice_get (meanings a (map body_of bodies)) number) fs vs
nothing_there a bodies number get fs vs =
    let past : length bodies ≤ number = none_past bodies number get in
    ap (λ o. used a 0 o fs vs) (sym (slice_get_past (meanings a (map body_of bodies)) number (omega (arith, length_declared a bodies))))
