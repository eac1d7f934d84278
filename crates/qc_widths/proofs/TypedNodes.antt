-- Each node over well typed parts is well typed, where it has no clash.
use Rattle.std.specs.Prelude.{ℕ, ◌≡◌, ◌≤◌, ◌<◌, ◌^◌, ◌+◌, min, Bool, true, false, ◌&&◌, cond, if◌then◌else◌, List, [], ◌∷◌, ◌++◌, Option, Some, is_some}
use Rattle.std.proofs.Common.{refl, ap, sym, ◌∙◌, subst, arith}
use Rattle.std.proofs.lemmas.Grind.{common_steps}
use Rattle.qc_words.specs.declared.operator.Op.{Op}
use Rattle.qc_words.specs.declared.operator.Op.TheVariants as op
use Rattle.qc_words.specs.Operators.{Accepts, is_unary, result_width_of}
use Rattle.qc_terms.specs.declared.term.Term.TheVariants as term
use Rattle.qc_terms.specs.State.{Context}
use Rattle.qc_terms.specs.declared.term.Term.{Term}
use Rattle.qc_terms.specs.Tree.{Unary, Binary, Load, tree_of, width_of, tree_of-num, tree_of-input, tree_of-after, tree_of-mem, tree_of-un, tree_of-bin}
use Rattle.qc_terms.specs.Typing.{IsTyped, IsAccessWidth}
use Rattle.qc_descr.specs.declared.description.OperandKind.{OperandKind}
use Rattle.qc_descr.specs.Valid.{NamesOperands}
use Rattle.qc_grammar.specs.declared.cursor.Number.{Number}
use Rattle.qc_facts.specs.declared.faults.WidthFault.{WidthFault}
use Rattle.qc_facts.specs.Numbers.{is_empty, width_in, width_faults, fit_faults, literal_faults, access_faults, access_width}
use Rattle.qc_facts.specs.Values.{Value, bits_of, faulty, leaf, node, mismatch, excess, past_end, test, literal, input, after, load, extension, slice, unary, binary, width_of_operator}
use Rattle.qc_widths.proofs.Typed.{IsTypedValue, IsGood}

pub none_of : {A : Type 0} (xs ys : List A) → xs ++ ys ≡ [] → (xs ≡ []) × (ys ≡ [])
none_of [] ys e = (refl, e)
none_of (x ∷ xs) ys e = cc e

-- what holds in both cases
pub by_cond : {A : Type 0} (P : A → Type 0) (b : Bool) (x y : A) → P x → P y → P (cond b x y)
by_cond P true x y p q = p
by_cond P false x y p q = q

pub by_conds : {A B : Type 0} (P : A → B → Type 0) (b : Bool) (x y : A) (u v : B) → P x u → P y v
    → P (cond b x y) (cond b u v)
by_conds P true x y u v p q = p
by_conds P false x y u v p q = q

pub no_mismatch : (token a b : ℕ) → mismatch token (Some a) (Some b) ≡ [] → a ≡ b
no_mismatch token a b e = grind (arith, common_steps)

no_excess : (token a b : ℕ) → excess token (Some a) (Some b) ≡ [] → a ≤ b
no_excess token a b e = grind (arith, common_steps)

no_past_end : (token a low b : ℕ) → past_end token (Some a) low (Some b) ≡ [] → low + b ≤ a
no_past_end token a low b e = grind (arith, common_steps)

pub is_width : (n : Number) → width_faults n ≡ [] → (width_in n ≡ Some n.value) × (1 ≤ n.value) × (n.value ≤ 64)
is_width n e = grind (arith, common_steps)

fits : (value : Number) (width : ℕ) → fit_faults value (Some width) ≡ [] → value.value < 2 ^ width
fits value width e = grind (arith, common_steps)

pub is_fine_access : (word : ℕ) (n : Number) → access_faults (Some word) n ≡ []
    → (access_width (Some word) n ≡ Some n.value) × IsAccessWidth n.value × (n.value ≤ word)
is_fine_access word n e = grind (arith, common_steps)

access_most : (bits : ℕ) → IsAccessWidth bits → bits ≤ 64
access_most bits is = grind (arith, common_steps)

literal_parts : (value bits : Number) → literal_faults value bits ≡ []
    → (width_in bits ≡ Some bits.value) × (value.value < 2 ^ bits.value) × (bits.value ≤ 64)
literal_parts value bits e =
    let parts : (width_faults bits ≡ []) × (fit_faults value (width_in bits) ≡ []) =
    none_of (width_faults bits) (fit_faults value (width_in bits)) e in
    let width : (width_in bits ≡ Some bits.value) × (1 ≤ bits.value) × (bits.value ≤ 64) = is_width bits parts.0 in
    (width.0, fits value bits.value (subst (λ w. fit_faults value w ≡ []) width.0 parts.1), width.2)

module _ (context : Context) (kinds : List OperandKind) where
  pub typed_literal : (value bits : Number) → literal_faults value bits ≡ []
      → IsTypedValue context kinds (literal value bits)
  typed_literal value bits e =
      let parts : (width_in bits ≡ Some bits.value) × (value.value < 2 ^ bits.value) × (bits.value ≤ 64) =
      literal_parts value bits e in
      let is : literal value bits ≡ leaf value.token (term.Num value.value bits.value) (Some bits.value) =
      ap (λ fs. if is_empty fs then leaf value.token (term.Num value.value (bits_of (width_in bits))) (width_in bits)
      else faulty value.token) e
      ∙ ap (λ w. leaf value.token (term.Num value.value (bits_of w)) w) parts.0 in
      subst (IsTypedValue context kinds) (sym is)
      (record {
        sound = refl;
        width = ap (λ t. Some (width_of t)) (sym (tree_of-num value.value bits.value));
        most = subst (λ t. width_of t ≤ 64) (sym (tree_of-num value.value bits.value)) parts.2;
        typed = subst (IsTyped context) (sym (tree_of-num value.value bits.value)) parts.1;
        names = subst (NamesOperands context.word kinds) (sym (tree_of-num value.value bits.value)) tt;
      })

  pub typed_input : context.word ≤ 64 → (token : ℕ) → IsTypedValue context kinds (input (Some context.word) token)
  typed_input small token = record {
    sound = refl;
    width = ap (λ t. Some (width_of t)) (sym (tree_of-input context.word));
    most = subst (λ t. width_of t ≤ 64) (sym (tree_of-input context.word)) small;
    typed = subst (IsTyped context) (sym (tree_of-input context.word)) refl;
    names = subst (NamesOperands context.word kinds) (sym (tree_of-input context.word)) tt;
  }

  pub typed_after : context.word ≤ 64 → (token : ℕ) → IsTypedValue context kinds (after (Some context.word) token)
  typed_after small token = record {
    sound = refl;
    width = ap (λ t. Some (width_of t)) (sym (tree_of-after context.word));
    most = subst (λ t. width_of t ≤ 64) (sym (tree_of-after context.word)) small;
    typed = subst (IsTyped context) (sym (tree_of-after context.word)) refl;
    names = subst (NamesOperands context.word kinds) (sym (tree_of-after context.word)) tt;
  }

  -- a node without a clash of its own over sound parts
  typed_node : (token : ℕ) (t : Term) (width : Option ℕ) (sound : Bool) (inner own : List WidthFault) → sound ≡ true
      → own ≡ [] → width ≡ Some (width_of (tree_of t)) → width_of (tree_of t) ≤ 64 → IsTyped context (tree_of t)
      → NamesOperands context.word kinds (tree_of t)
      → IsTypedValue context kinds (node token t width sound inner own)
  typed_node token t width sound inner own s o w small typed names =
      subst (λ b. IsTypedValue context kinds (node token t width b inner own)) (sym s)
      (subst (λ fs. IsTypedValue context kinds (node token t width true inner fs)) (sym o)
      (record { sound = refl; width = w; most = small; typed = typed; names = names }))

  pub good_load : (token : ℕ) (bits : Number) (address : Value) → access_faults (Some context.word) bits ≡ []
      → IsGood context kinds address → IsGood context kinds (load (Some context.word) token bits address)
  good_load token bits address e good none =
      let width : (access_width (Some context.word) bits ≡ Some bits.value) × IsAccessWidth bits.value
      × (bits.value ≤ context.word) = is_fine_access context.word bits e in
      let parts : (address.clashes ≡ []) × (test address (Some context.word) ≡ []) =
      none_of address.clashes (test address (Some context.word)) none in
      let inner : IsTypedValue context kinds address = good parts.0 in
      let word : width_of (tree_of address.term) ≡ context.word = no_mismatch address.token
      (width_of (tree_of address.term)) context.word
      (subst (λ w. mismatch address.token w (Some context.word) ≡ []) inner.width parts.1) in
      let t : Term = term.Mem (bits_of (access_width (Some context.word) bits)) address.term in
      let tree : tree_of t ≡ Load bits.value (tree_of address.term) =
      ap (λ w. tree_of (term.Mem (bits_of w) address.term)) width.0 ∙ tree_of-mem bits.value address.term in
      typed_node token t (access_width (Some context.word) bits)
      (address.sound && is_empty (access_faults (Some context.word) bits)) address.clashes
      (test address (Some context.word))
      (ap (λ b. b && is_empty (access_faults (Some context.word) bits)) inner.sound ∙ ap is_empty e) parts.1
      (width.0 ∙ ap (λ x. Some (width_of x)) (sym tree))
      (subst (λ x. width_of x ≤ 64) (sym tree) (access_most bits.value width.1))
      (subst (IsTyped context) (sym tree)
      (record { width = width.1; word = width.2; address = word }, inner.typed))
      (subst (NamesOperands context.word kinds) (sym tree) inner.names)

  pub good_extension : (o : ℕ → Op) → ((to : ℕ) → is_unary (o to) ≡ true)
      → ((to w : ℕ) → result_width_of (o to) w ≡ to) → ((to w : ℕ) → w ≤ to → Accepts (o to) w)
      → (token : ℕ) (bits : Number) (arg : Value) → width_faults bits ≡ [] → IsGood context kinds arg
      → IsGood context kinds (extension o token bits arg)
  good_extension o one result accepts token bits arg e good none =
      let width : (width_in bits ≡ Some bits.value) × (1 ≤ bits.value) × (bits.value ≤ 64) = is_width bits e in
      let parts : (arg.clashes ≡ []) × (excess arg.token arg.width (width_in bits) ≡ []) =
      none_of arg.clashes (excess arg.token arg.width (width_in bits)) none in
      let inner : IsTypedValue context kinds arg = good parts.0 in
      let wide : width_of (tree_of arg.term) ≤ bits.value = no_excess arg.token (width_of (tree_of arg.term)) bits.value
      (subst (λ w. excess arg.token w (Some bits.value) ≡ []) inner.width
      (subst (λ w. excess arg.token arg.width w ≡ []) width.0 parts.1)) in
      let t : Term = term.Un (o (bits_of (width_in bits))) arg.term in
      let tree : tree_of t ≡ Unary (o bits.value) (tree_of arg.term) =
      ap (λ w. tree_of (term.Un (o (bits_of w)) arg.term)) width.0 ∙ tree_of-un (o bits.value) arg.term in
      typed_node token t (width_in bits) (arg.sound && is_some (width_in bits)) arg.clashes
      (excess arg.token arg.width (width_in bits))
      (ap (λ b. b && is_some (width_in bits)) inner.sound ∙ ap is_some width.0) parts.1
      (width.0 ∙ ap Some (sym (result bits.value (width_of (tree_of arg.term)))) ∙ ap (λ x. Some (width_of x)) (sym tree))
      (subst (λ x. width_of x ≤ 64) (sym tree)
      (subst (λ n. n ≤ 64) (sym (result bits.value (width_of (tree_of arg.term)))) width.2))
      (subst (IsTyped context) (sym tree)
      (one bits.value, accepts bits.value (width_of (tree_of arg.term)) wide, inner.typed))
      (subst (NamesOperands context.word kinds) (sym tree) inner.names)

  pub good_slice : (token : ℕ) (low bits : Number) (arg : Value) → width_faults bits ≡ [] → IsGood context kinds arg
      → IsGood context kinds (slice token low bits arg)
  good_slice token low bits arg e good none =
      let width : (width_in bits ≡ Some bits.value) × (1 ≤ bits.value) × (bits.value ≤ 64) = is_width bits e in
      let parts : (arg.clashes ≡ []) × (past_end arg.token arg.width low.value (width_in bits) ≡ []) =
      none_of arg.clashes (past_end arg.token arg.width low.value (width_in bits)) none in
      let inner : IsTypedValue context kinds arg = good parts.0 in
      let within : low.value + bits.value ≤ width_of (tree_of arg.term) =
      no_past_end arg.token (width_of (tree_of arg.term)) low.value bits.value
      (subst (λ w. past_end arg.token w low.value (Some bits.value) ≡ []) inner.width
      (subst (λ w. past_end arg.token arg.width low.value w ≡ []) width.0 parts.1)) in
      let t : Term = term.Un (op.Slice (min low.value 64) (bits_of (width_in bits))) arg.term in
      let tree : tree_of t ≡ Unary (op.Slice (min low.value 64) bits.value) (tree_of arg.term) =
      ap (λ w. tree_of (term.Un (op.Slice (min low.value 64) (bits_of w)) arg.term)) width.0
      ∙ tree_of-un (op.Slice (min low.value 64) bits.value) arg.term in
      typed_node token t (width_in bits) (arg.sound && is_some (width_in bits)) arg.clashes
      (past_end arg.token arg.width low.value (width_in bits))
      (ap (λ b. b && is_some (width_in bits)) inner.sound ∙ ap is_some width.0) parts.1
      (width.0 ∙ ap (λ x. Some (width_of x)) (sym tree)) (subst (λ x. width_of x ≤ 64) (sym tree) width.2)
      (subst (IsTyped context) (sym tree) (refl, omega (arith, within, inner.most), inner.typed))
      (subst (NamesOperands context.word kinds) (sym tree) inner.names)

  pub good_unary : (o : Op) (token : ℕ) (arg : Value) → is_unary o ≡ true
      → ((w : ℕ) → result_width_of o w ≡ w) → ((w : ℕ) → Accepts o w) → IsGood context kinds arg
      → IsGood context kinds (unary o token arg)
  good_unary o token arg one result accepts good none =
      let parts : (arg.clashes ≡ []) × ([] ≡ []) = none_of arg.clashes [] none in
      let inner : IsTypedValue context kinds arg = good parts.0 in
      let tree : tree_of (term.Un o arg.term) ≡ Unary o (tree_of arg.term) = tree_of-un o arg.term in
      typed_node token (term.Un o arg.term) arg.width arg.sound arg.clashes [] inner.sound refl
      (inner.width ∙ ap Some (sym (result (width_of (tree_of arg.term)))) ∙ ap (λ x. Some (width_of x)) (sym tree))
      (subst (λ x. width_of x ≤ 64) (sym tree)
      (subst (λ n. n ≤ 64) (sym (result (width_of (tree_of arg.term)))) inner.most))
      (subst (IsTyped context) (sym tree) (one, accepts (width_of (tree_of arg.term)), inner.typed))
      (subst (NamesOperands context.word kinds) (sym tree) inner.names)

  pub good_binary : (o : Op) (token : ℕ) (left right : Value) → is_unary o ≡ false → ((w : ℕ) → Accepts o w)
      → ((w : ℕ) → w ≤ 64 → result_width_of o w ≤ 64)
      → IsGood context kinds left → IsGood context kinds right → IsGood context kinds (binary o token left right)
  good_binary o token left right two accepts most good other none =
      let parts : (left.clashes ++ right.clashes ≡ []) × (mismatch right.token right.width left.width ≡ []) =
      none_of (left.clashes ++ right.clashes) (mismatch right.token right.width left.width) none in
      let both : (left.clashes ≡ []) × (right.clashes ≡ []) = none_of left.clashes right.clashes parts.0 in
      let l : IsTypedValue context kinds left = good both.0 in
      let r : IsTypedValue context kinds right = other both.1 in
      let same : width_of (tree_of right.term) ≡ width_of (tree_of left.term) =
      no_mismatch right.token (width_of (tree_of right.term)) (width_of (tree_of left.term))
      (subst (λ w. mismatch right.token w (Some (width_of (tree_of left.term))) ≡ []) r.width
      (subst (λ w. mismatch right.token right.width w ≡ []) l.width parts.1)) in
      let tree : tree_of (term.Bin o left.term right.term) ≡ Binary o (tree_of left.term) (tree_of right.term) =
      tree_of-bin o left.term right.term in
      typed_node token (term.Bin o left.term right.term) (width_of_operator o left.width right.width)
      (left.sound && right.sound) (left.clashes ++ right.clashes) (mismatch right.token right.width left.width)
      (ap (λ b. b && right.sound) l.sound ∙ r.sound) parts.1
      (ap (λ w. width_of_operator o w right.width) l.width ∙ ap (λ x. Some (width_of x)) (sym tree))
      (subst (λ x. width_of x ≤ 64) (sym tree) (most (width_of (tree_of left.term)) l.most))
      (subst (IsTyped context) (sym tree)
      (two, accepts (width_of (tree_of left.term)), sym same, l.typed, r.typed))
      (subst (NamesOperands context.word kinds) (sym tree) (l.names, r.names))
