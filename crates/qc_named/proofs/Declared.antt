-- Own names one by one, and what items declare one by one.
use Rattle.std.proofs.Common.{ℕ, zero, suc, ◌≡◌, ◌+◌, ◌<◌, ◌≤◌, ◌++◌, List, [], ◌∷◌, Option, Some, None, length, map, take, slice_index_or, refl, sym, ap, ◌∙◌, subst, append_assoc, arith}
use Rattle.std.specs.Option.{option_to_list}
use Rattle.std.proofs.lemmas.List.{append-nil, map-append, take_more, length-map, length-append}
use Rattle.qc_names.specs.ValueTables.{IsTableOf}
use Rattle.qc_facts.specs.Facts.{Facts, facts_of_operand}
use Rattle.qc_lrtl.specs.declared.syntax.Item.{Item}
use Rattle.qc_lrtl.specs.declared.syntax.Item.TheVariants as item
use Rattle.qc_lrtl.specs.declared.syntax.Operand.{Operand}
use Rattle.qc_lrtl.specs.declared.syntax.Param.{Param}
use Rattle.qc_bodies.specs.Law.Acts.{body_of}
use Rattle.qc_facts.specs.Faults.{reported}
use Rattle.qc_facts.specs.declared.faults.WidthFault.{WidthFault}
use Rattle.qc_named.specs.declared.bodies.ResolvedBody.{ResolvedBody}
use Rattle.qc_named.specs.NameFaults.{name_faults_of_item}
use Rattle.qc_resolve.specs.Scopes.{Signature}
use Rattle.qc_resolve.specs.Declarations.{arity_of, signature_of_item, signatures_after, signatures_in}
use Rattle.qc_resolve.specs.Law.Earlier.{signatures-before, signatures-next}
use Rattle.qc_named.specs.declared.bodies.OwnNames.{OwnNames}
use Rattle.qc_named.specs.declared.standing.Own.TheVariants as own
use Rattle.qc_named.specs.Inner.OwnNames.{AreOwn, values_past, functions_past}
use Rattle.qc_named.specs.Standing.{own_of_arity, values_after, functions_after, own_params, own_params_from, own_operands, own_operands_from}
use Rattle.qc_named.specs.ResolvedEffects.{body_of_item, in_order}

own-more : (values functions : ℕ) (params : List Param) (p : Param)
    → own_params_from values functions (params ++ p ∷ [])
    ≡ own_params_from values functions params
    ++ (p.name.text, own_of_arity (values_past values params) (functions_past functions params) (arity_of p)) ∷ []
own-more values functions [] p = refl
own-more values functions (q ∷ params) p =
    ap (λ l. (q.name.text, own_of_arity values functions (arity_of q)) ∷ l)
    (own-more (values_after values (arity_of q)) (functions_after functions (arity_of q)) params p)

values-more : (values : ℕ) (params : List Param) (p : Param)
    → values_past values (params ++ p ∷ []) ≡ values_after (values_past values params) (arity_of p)
values-more values [] p = refl
values-more values (q ∷ params) p = values-more (values_after values (arity_of q)) params p

functions-more : (functions : ℕ) (params : List Param) (p : Param)
    → functions_past functions (params ++ p ∷ []) ≡ functions_after (functions_past functions params) (arity_of p)
functions-more functions [] p = refl
functions-more functions (q ∷ params) p = functions-more (functions_after functions (arity_of q)) params p

-- one parameter more
pub own_more : (params : List Param) (p : Param) (arity : Option ℕ) (old new : OwnNames) → arity_of p ≡ arity → AreOwn params old
    → IsTableOf (own_params params ++ (p.name.text, own_of_arity old.values old.functions arity) ∷ []) new.own.values new.own.numbers
    → new.values ≡ values_after old.values arity → new.functions ≡ functions_after old.functions arity
    → AreOwn (params ++ p ∷ []) new
own_more params p arity old new is before table values functions = record {
  table = subst (λ l. IsTableOf l new.own.values new.own.numbers)
      (ap (λ v. own_params params ++ (p.name.text, own_of_arity v old.functions arity) ∷ []) before.values
      ∙ ap (λ f. own_params params ++ (p.name.text, own_of_arity (values_past 0 params) f arity) ∷ []) before.functions
      ∙ ap (λ a. own_params params ++ (p.name.text, own_of_arity (values_past 0 params) (functions_past 0 params) a) ∷ []) (sym is)
      ∙ sym (own-more 0 0 params p)) table;
  values = values ∙ ap (λ v. values_after v arity) before.values ∙ ap (values_after (values_past 0 params)) (sym is)
      ∙ sym (values-more 0 params p);
  functions = functions ∙ ap (λ f. functions_after f arity) before.functions
      ∙ ap (functions_after (functions_past 0 params)) (sym is) ∙ sym (functions-more 0 params p);
}

values-step : (values : ℕ) (arity : Option ℕ) → values_after values arity ≤ values + 1
values-step values None = omega arith
values-step values (Some arity) = omega arith

functions-step : (functions : ℕ) (arity : Option ℕ) → functions_after functions arity ≤ functions + 1
functions-step functions None = omega arith
functions-step functions (Some arity) = omega arith

pub values_few : (values : ℕ) (params : List Param) → values_past values params ≤ values + length params
values_few values [] = omega arith
values_few values (p ∷ params) =
    omega (arith, values_few (values_after values (arity_of p)) params, values-step values (arity_of p))

pub functions_few : (functions : ℕ) (params : List Param) → functions_past functions params ≤ functions + length params
functions_few functions [] = omega arith
functions_few functions (p ∷ params) =
    omega (arith, functions_few (functions_after functions (arity_of p)) params, functions-step functions (arity_of p))

-- one operand more
operands-more : (facts : Facts) (number : ℕ) (operands : List Operand) (o : Operand)
    → own_operands_from facts number (operands ++ o ∷ [])
    ≡ own_operands_from facts number operands
    ++ (o.name.text, own.Operand (number + length operands) (facts_of_operand facts o.kind)) ∷ []
operands-more facts number [] o =
    let same : number ≡ number + 0 = omega arith in
    ap (λ n. (o.name.text, own.Operand n (facts_of_operand facts o.kind)) ∷ []) same
operands-more facts number (q ∷ operands) o =
    let same : suc number + length operands ≡ number + suc (length operands) = omega arith in
    ap (λ l. (q.name.text, own.Operand number (facts_of_operand facts q.kind)) ∷ l)
    (operands-more facts (suc number) operands o
    ∙ ap (λ n. own_operands_from facts (suc number) operands ++ (o.name.text, own.Operand n (facts_of_operand facts o.kind)) ∷ []) same)

pub operands_past : (facts : Facts) (operands : List Operand) (number : ℕ) (o : Operand) → number ≡ length operands
    → own_operands facts operands ++ (o.name.text, own.Operand number (facts_of_operand facts o.kind)) ∷ []
    ≡ own_operands facts (operands ++ o ∷ [])
operands_past facts operands number o is =
    let count : number ≡ 0 + length operands = omega (arith, is) in
    ap (λ n. own_operands facts operands ++ (o.name.text, own.Operand n (facts_of_operand facts o.kind)) ∷ []) count
    ∙ sym (operands-more facts 0 operands o)

-- one item more
in_order-append : {A : Type 0} (facts : Facts) (of : List Signature → Item → List A) (earlier : List Signature) (xs ys : List Item)
    → in_order facts of earlier (xs ++ ys) ≡ in_order facts of earlier xs ++ in_order facts of (signatures_after facts earlier xs) ys
in_order-append facts of earlier [] ys = refl
in_order-append facts of earlier (x ∷ xs) ys =
    ap (λ l. of earlier x ++ l) (in_order-append facts of (earlier ++ signature_of_item facts earlier x) xs ys)
    ∙ sym (append_assoc (of earlier x) (in_order facts of (earlier ++ signature_of_item facts earlier x) xs)
    (in_order facts of (signatures_after facts (earlier ++ signature_of_item facts earlier x) xs) ys))

in_order-next : {A : Type 0} (facts : Facts) (of : List Signature → Item → List A) (items : List Item) (i : ℕ) (x : Item)
    → i < length items → x ≡ slice_index_or items i x
    → in_order facts of [] (take (i + 1) items)
    ≡ in_order facts of [] (take i items) ++ of (signatures_after facts [] (take i items)) x
in_order-next facts of items i x within is =
    ap (in_order facts of []) (take_more items i x within ∙ ap (λ y. take i items ++ y ∷ []) (sym is))
    ∙ in_order-append facts of [] (take i items) (x ∷ [])
    ∙ ap (λ l. in_order facts of [] (take i items) ++ l) (append-nil (of (signatures_after facts [] (take i items)) x))

as-many : (facts : Facts) (earlier : List Signature) (i : Item)
    → length (body_of_item facts earlier i) ≡ length (signature_of_item facts earlier i)
as-many facts earlier (item.Function token name params body) = refl
as-many facts earlier (item.Effects token name params body) = refl
as-many facts earlier _ = refl

-- The bodies and the faults of the first items, and as many signatures.
pub record AreFirst (facts : Facts) (items : List Item) (count : ℕ) (found : List ResolvedBody) : Type 0 where
  pub bodies : map (λ b. body_of b.body) found ≡ in_order facts (body_of_item facts) [] (take count items)
  pub faults : map (λ b. b.fault) found ≡ map reported (in_order facts (name_faults_of_item facts) [] (take count items))
  pub many : length found ≡ length (signatures_after facts [] (take count items))

pub level_within : (facts : Facts) (items : List Item) (count : ℕ) (found : List ResolvedBody) → AreFirst facts items count found
    → length found ≤ length (signatures_in facts items)
level_within facts items count found first =
    let earlier : List Signature = signatures_after facts [] (take count items) in
    let front : take (length earlier) (signatures_in facts items) ≡ earlier = signatures-before facts items count in
    omega (arith, first.many, ap length front, length_take (length earlier) (signatures_in facts items))
  where
    length_take : {A : Type 0} (n : ℕ) (xs : List A) → length (take n xs) ≤ length xs
    length_take zero xs = omega arith
    length_take (suc n) [] = omega arith
    length_take (suc n) (x ∷ xs) = omega (arith, length_take n xs)

pub bodies_more : (facts : Facts) (items : List Item) (i : ℕ) (x : Item) → i < length items → x ≡ slice_index_or items i x
    → (old new : List ResolvedBody) (body : Option ResolvedBody) → AreFirst facts items i old → new ≡ old ++ option_to_list body
    → map (λ b. body_of b.body) (option_to_list body) ≡ body_of_item facts (take (length old) (signatures_in facts items)) x
    → map (λ b. b.fault) (option_to_list body)
    ≡ map reported (name_faults_of_item facts (take (length old) (signatures_in facts items)) x)
    → AreFirst facts items (i + 1) new
bodies_more facts items i x within is old new body first added same fault =
    let earlier : List Signature = signatures_after facts [] (take i items) in
    let front : take (length old) (signatures_in facts items) ≡ earlier =
    ap (λ n. take n (signatures_in facts items)) first.many ∙ signatures-before facts items i in
    let here : map (λ b. body_of b.body) (option_to_list body) ≡ body_of_item facts earlier x =
    same ∙ ap (λ e. body_of_item facts e x) front in
    let before : List (List WidthFault) = in_order facts (name_faults_of_item facts) [] (take i items) in
    record {
      bodies = ap (map (λ b. body_of b.body)) added ∙ map-append (λ b. body_of b.body) old (option_to_list body)
          ∙ ap (λ l. l ++ map (λ b. body_of b.body) (option_to_list body)) first.bodies
          ∙ ap (λ l. in_order facts (body_of_item facts) [] (take i items) ++ l) here
          ∙ sym (in_order-next facts (body_of_item facts) items i x within is);
      faults = ap (map (λ b. b.fault)) added ∙ map-append (λ b. b.fault) old (option_to_list body)
          ∙ ap (λ l. l ++ map (λ b. b.fault) (option_to_list body)) first.faults
          ∙ ap (λ l. map reported before ++ l) (fault ∙ ap (λ e. map reported (name_faults_of_item facts e x)) front)
          ∙ sym (map-append reported before (name_faults_of_item facts earlier x))
          ∙ ap (map reported) (sym (in_order-next facts (name_faults_of_item facts) items i x within is));
      many =
          let counted : length (option_to_list body) ≡ length (signature_of_item facts earlier x) =
          sym (length-map (option_to_list body) (λ b. body_of b.body)) ∙ ap length here ∙ as-many facts earlier x in
          ap length added ∙ length-append old (option_to_list body)
          ∙ ap (λ n. n + length (option_to_list body)) first.many
          ∙ ap (λ n. length earlier + n) counted
          ∙ sym (length-append earlier (signature_of_item facts earlier x))
          ∙ ap length (sym (signatures-next facts items i x within is));
    }
