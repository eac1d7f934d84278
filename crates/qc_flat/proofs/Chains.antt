-- Chains that grow by a link, and the terms that they then stand for.
use Rattle.std.proofs.Common.{◌≡◌, ◌∙◌, ℕ, ◌*◌, ◌/◌, ◌≤◌, List, [], ◌∷◌, ◌++◌, Option, None, Some, option_and_then, refl, sym, ap, subst, arith}
use Rattle.std.specs.Option.{option_map}
use Rattle.std.proofs.lemmas.Nat.{pow_pos}
use Rattle.qc_words.specs.declared.operator.Op.{Op}
use Rattle.qc_words.specs.Operators.{Accepts, result_of, result_width_of}
use Rattle.qc_terms.specs.declared.state.State.{State}
use Rattle.qc_terms.specs.Memory.{load_of}
use Rattle.qc_terms.specs.State.{Context}
use Rattle.qc_terms.specs.Tree.{Binary, Load as Loading, Tree, Unary}
use Rattle.qc_terms.specs.Typing.{IsAccessWidth, IsTyped}
use Rattle.qc_terms.specs.Value.{value_of}
use Rattle.qc_flat.specs.declared.chain.Chain.{Chain}
use Rattle.qc_flat.specs.declared.chain.Link.{Link}
use Rattle.qc_flat.specs.declared.chain.Link.TheVariants.{Apply, Load}
use Rattle.qc_flat.specs.declared.chain.Source.{Source}
use Rattle.qc_flat.specs.declared.chain.Source.TheVariants.{Number}
use Rattle.qc_flat.specs.Chain.{AreTypedLinks, IsChainOf, IsTypedChain, IsTypedLink, IsTypedSource, after_link, after_links, value_of_chain, width_before, width_made, width_taken, word_of_source}
use Rattle.qc_flat.specs.Inner.Links.{AreTypedFrom, IsLinked, IsUnaryChain, value_of_links}

-- ---- values that may be missing

same_after : {X : Type 0} (r : Option X) → option_and_then (λ x. Some x) r ≡ r
same_after None = refl
same_after (Some x) = refl

map_is : {X Y : Type 0} (f : X → Y) (r : Option X) → option_and_then (λ x. Some (f x)) r ≡ option_map f r
map_is f None = refl
map_is f (Some x) = refl

-- ---- links

-- the last of some links takes the word that the others make
links_push_from : (links : List Link) (link : Link) (s : State) (made : Option ℕ) →
    ((word : ℕ) → after_links (links ++ link ∷ []) word s ≡ option_and_then (λ w. after_link link w s) (after_links links word s)) →
    option_and_then (λ w. after_links (links ++ link ∷ []) w s) made
    ≡ option_and_then (λ w. after_link link w s) (option_and_then (λ w. after_links links w s) made)
links_push_from links link s None more = refl
links_push_from links link s (Some word) more = more word

after_links-push : (links : List Link) (link : Link) (s : State) (word : ℕ) →
    after_links (links ++ link ∷ []) word s ≡ option_and_then (λ w. after_link link w s) (after_links links word s)
after_links-push [] link s word = same_after (after_link link word s)
after_links-push (first ∷ links) link s word =
    links_push_from links link s (after_link first word s) (after_links-push links link s)

width_before-push : (links : List Link) (link : Link) →
    width_before (width_made link) (links ++ link ∷ []) ≡ width_before (width_taken link) links
width_before-push [] link = refl
width_before-push (first ∷ links) link = refl

typed-push : (context : Context) (links : List Link) (link : Link) → AreTypedLinks context (width_taken link) links →
    IsTypedLink context link → AreTypedLinks context (width_made link) (links ++ link ∷ [])
typed-push context [] link typed last = (last, refl, tt)
typed-push context (first ∷ links) link typed last =
    (typed.0, typed.1 ∙ sym (width_before-push links link), typed-push context links link typed.2 last)

linked_typed : (context : Context) (start : Source) (links : List Link) (width made : ℕ) (link : Link) (c : Chain) →
    AreTypedFrom context start links width → IsTypedLink context link → width ≡ width_taken link → made ≡ width_made link →
    IsLinked start links link made c → IsTypedChain context c
linked_typed context start links width made link c typed last same makes is =
    let whole : List Link = links ++ link ∷ [] in
    let rest : AreTypedLinks context (width_taken link) links = subst (λ w. AreTypedLinks context w links) same typed.rest in
    let before : width_before width links ≡ width_before (width_made link) whole =
    ap (λ w. width_before w links) same ∙ sym (width_before-push links link) in
    let first : IsTypedSource context (width_before (width_made link) whole) start =
    subst (λ w. IsTypedSource context w start) before typed.first in
    record {
      start = rw (is.start, is.width, is.links, makes) first;
      links = rw (is.width, is.links, makes) (typed-push context links link rest last);
    }

linked_value : (start : Source) (links : List Link) (width : ℕ) (link : Link) (c : Chain) (s : State) → IsLinked start links link width c →
    value_of_chain c s ≡ option_and_then (λ w. after_link link w s) (value_of_links start links s)
linked_value start links width link c s is =
    rw (is.start, is.links) (after_links-push links link s (word_of_source start s))

pub unary_linked : (op : Op) (start : Source) (links : List Link) (width : ℕ) (c : Chain) →
    IsLinked start links (Apply op width (Number 0)) (result_width_of op width) c → IsUnaryChain op start links width c
unary_linked op start links width c is = record {
  typed = λ context typed accepted.
      linked_typed context start links width (result_width_of op width) (Apply op width (Number 0)) c typed (accepted, pow_pos width) refl refl is;
  width = is.width;
  value = λ s.
      linked_value start links (result_width_of op width) (Apply op width (Number 0)) c s is
      ∙ map_is (λ word. result_of op width word 0) (value_of_links start links s);
}

-- ---- terms

typed_parts : (context : Context) (d : Chain) → IsTypedChain context d → AreTypedFrom context d.start d.links.items d.width
typed_parts context d typed = record { first = typed.start; rest = typed.links }

pub of_unary : (context : Context) (zero : Option (ℕ × ℕ)) (operands : List ℕ) (after : ℕ) (op : Op) (t : Tree) (d c : Chain) →
    IsTyped context (Unary op t) → IsChainOf context zero operands after t d → IsUnaryChain op d.start d.links.items d.width c →
    IsChainOf context zero operands after (Unary op t) c
of_unary context zero operands after op t d c typed is made = record {
  typed = made.typed context (typed_parts context d is.typed) (subst (Accepts op) (sym is.width) typed.1);
  width = made.width ∙ ap (result_width_of op) is.width;
  value = λ s here.
      made.value s ∙ ap (option_map (λ word. result_of op d.width word 0)) (is.value s here)
      ∙ ap (λ w. option_map (λ word. result_of op w word 0) (value_of t operands after s)) is.width;
}

-- the value of an operator whose second operand is at hand
second_at_hand : (op : Op) (width second : ℕ) (first : Option ℕ) →
    option_and_then (λ a. Some (result_of op width a second)) first
    ≡ option_and_then (λ a. option_map (λ b. result_of op width a b) (Some second)) first
second_at_hand op width second None = refl
second_at_hand op width second (Some a) = refl

pub of_binary : (context : Context) (zero : Option (ℕ × ℕ)) (operands : List ℕ) (after : ℕ) (op : Op) (t u : Tree) (d e c : Chain) →
    IsTyped context (Binary op t u) → IsChainOf context zero operands after t d → IsChainOf context zero operands after u e →
    e.links.items ≡ [] → IsLinked d.start d.links.items (Apply op d.width e.start) (result_width_of op d.width) c →
    IsChainOf context zero operands after (Binary op t u) c
of_binary context zero operands after op t u d e c typed is other alone made =
    let accepted : Accepts op d.width = subst (Accepts op) (sym is.width) typed.1 in
    let wide : width_before e.width e.links.items ≡ d.width =
    ap (width_before e.width) alone ∙ other.width ∙ sym typed.2 ∙ sym is.width in
    let second : IsTypedSource context d.width e.start = subst (λ w. IsTypedSource context w e.start) wide other.typed.start in
    record {
      typed = linked_typed context d.start d.links.items d.width (result_width_of op d.width) (Apply op d.width e.start) c
          (typed_parts context d is.typed) (accepted, second) refl refl made;
      width = made.width ∙ ap (result_width_of op) is.width;
      value = λ s here.
          let word : Some (word_of_source e.start s) ≡ value_of u operands after s =
          ap (λ links. after_links links (word_of_source e.start s) s) (sym alone) ∙ other.value s here in
          linked_value d.start d.links.items (result_width_of op d.width) (Apply op d.width e.start) c s made
          ∙ second_at_hand op d.width (word_of_source e.start s) (value_of_chain d s)
          ∙ ap (λ w. option_and_then (λ a. option_map (λ b. result_of op d.width a b) w) (value_of_chain d s)) word
          ∙ ap (option_and_then (λ a. option_map (λ b. result_of op d.width a b) (value_of u operands after s))) (is.value s here)
          ∙ ap (λ w. option_and_then (λ a. option_map (λ b. result_of op w a b) (value_of u operands after s)) (value_of t operands after s)) is.width;
    }

-- a width of an access is that of its bytes
pub access_bits : (width : ℕ) → IsAccessWidth width → (8 * (width / 8) ≡ width) × (width / 8 ≤ 8)
access_bits width is = (omega arith, omega arith)

pub of_load : (context : Context) (zero : Option (ℕ × ℕ)) (operands : List ℕ) (after size count : ℕ) (t : Tree) (d c : Chain) →
    IsTyped context (Loading size t) → IsChainOf context zero operands after t d → count ≡ size / 8 →
    IsLinked d.start d.links.items (Load d.width count) size c → IsChainOf context zero operands after (Loading size t) c
of_load context zero operands after size count t d c typed is counts made =
    let bits = access_bits size typed.0.width in
    let few : count ≤ 8 = omega (arith, counts, bits.1) in
    let whole : size ≡ 8 * count = omega (arith, counts, bits.0) in
    record {
      typed = linked_typed context d.start d.links.items d.width size (Load d.width count) c (typed_parts context d is.typed) few refl whole made;
      width = made.width;
      value = λ s here.
          linked_value d.start d.links.items size (Load d.width count) c s made
          ∙ ap (λ n. option_and_then (load_of s.facts.order s.memory n) (value_of_chain d s)) counts
          ∙ ap (option_and_then (load_of s.facts.order s.memory (size / 8))) (is.value s here);
    }
