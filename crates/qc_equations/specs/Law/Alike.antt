-- Being alike is kept by chains and under operators and loads.
use Rattle.std.proofs.Common.{◌∙◌, ◌||◌, ◌/◌, ℕ, refl, ap, sym, subst, option_and_then}
use Rattle.std.specs.Option.{option_map}
use Rattle.qc_words.specs.declared.operator.Op.{Op}
use Rattle.qc_words.specs.Operators.{Accepts, result_of, result_width_of}
use Rattle.qc_terms.specs.Memory.{load_of}
use Rattle.qc_terms.specs.Tree.{Tree, Binary, Load, Unary, has_input, width_of}
use Rattle.qc_terms.specs.Typing.{IsAccess}
use Rattle.qc_terms.specs.Value.{value_of}
use Rattle.qc_equations.specs.Alike.{AreAlike}

pub alike-refl : (t : Tree) → AreAlike t t
alike-refl t = record {
  typed = λ context typed. typed;
  width = λ context typed. refl;
  value = λ context operands after s typed state same fits small. refl;
  fits = λ context operands fits. fits;
  leaves = λ test of_leaves all. all;
  input = refl;
}

pub alike-trans : (t u v : Tree) → AreAlike t u → AreAlike u v → AreAlike t v
alike-trans t u v first second = record {
  typed = λ context typed. second.typed context (first.typed context typed);
  width = λ context typed. second.width context (first.typed context typed) ∙ first.width context typed;
  value = λ context operands after s typed state same fits small.
      second.value context operands after s (first.typed context typed) state same (first.fits context operands fits) small
      ∙ first.value context operands after s typed state same fits small;
  fits = λ context operands fits. second.fits context operands (first.fits context operands fits);
  leaves = λ test of_leaves all. second.leaves test of_leaves (first.leaves test of_leaves all);
  input = second.input ∙ first.input;
}

pub under-unary : (op : Op) (t u : Tree) → AreAlike t u → AreAlike (Unary op t) (Unary op u)
under-unary op t u alike = record {
  typed = λ context typed. (
    typed.0,
    subst (λ w. Accepts op w) (sym (alike.width context typed.2)) typed.1,
    alike.typed context typed.2,
  );
  width = λ context typed. ap (result_width_of op) (alike.width context typed.2);
  value = λ context operands after s typed state same fits small.
      ap (λ w. option_map (λ a. result_of op w a 0) (value_of u operands after s)) (alike.width context typed.2)
      ∙ ap (option_map (λ a. result_of op (width_of t) a 0))
      (alike.value context operands after s typed.2 state same fits small);
  fits = λ context operands fits. alike.fits context operands fits;
  leaves = λ test of_leaves all. (of_leaves.unary op u, alike.leaves test of_leaves all.1);
  input = alike.input;
}

pub under-left : (op : Op) (t u right : Tree) → AreAlike t u → AreAlike (Binary op t right) (Binary op u right)
under-left op t u right alike = record {
  typed = λ context typed.
      let same = alike.width context typed.3 in (
        typed.0,
        subst (λ w. Accepts op w) (sym same) typed.1,
        same ∙ typed.2,
        alike.typed context typed.3,
        typed.4,
      );
  width = λ context typed. ap (result_width_of op) (alike.width context typed.3);
  value = λ context operands after s typed state same fits small.
      let others = value_of right operands after s in
      ap (λ w. option_and_then (λ a. option_map (λ b. result_of op w a b) others) (value_of u operands after s))
      (alike.width context typed.3)
      ∙ ap (option_and_then (λ a. option_map (λ b. result_of op (width_of t) a b) others))
      (alike.value context operands after s typed.3 state same fits.0 small);
  fits = λ context operands fits. (alike.fits context operands fits.0, fits.1);
  leaves = λ test of_leaves all. (of_leaves.binary op u right, alike.leaves test of_leaves all.1, all.2);
  input = ap (λ b. b || has_input right) alike.input;
}

pub under-right : (op : Op) (left t u : Tree) → AreAlike t u → AreAlike (Binary op left t) (Binary op left u)
under-right op left t u alike = record {
  typed = λ context typed. (
    typed.0,
    typed.1,
    typed.2 ∙ sym (alike.width context typed.4),
    typed.3,
    alike.typed context typed.4,
  );
  width = λ context typed. refl;
  value = λ context operands after s typed state same fits small.
      ap (λ others. option_and_then (λ a. option_map (λ b. result_of op (width_of left) a b) others)
      (value_of left operands after s))
      (alike.value context operands after s typed.4 state same fits.1 small);
  fits = λ context operands fits. (fits.0, alike.fits context operands fits.1);
  leaves = λ test of_leaves all. (of_leaves.binary op left u, all.1, alike.leaves test of_leaves all.2);
  input = ap (λ b. has_input left || b) alike.input;
}

pub under-load : (width : ℕ) (t u : Tree) → AreAlike t u → AreAlike (Load width t) (Load width u)
under-load width t u alike = record {
  typed = λ context typed. (
    subst (λ w. IsAccess context width w) (sym (alike.width context typed.1)) typed.0,
    alike.typed context typed.1,
  );
  width = λ context typed. refl;
  value = λ context operands after s typed state same fits small.
      ap (option_and_then (load_of s.facts.order s.memory (width / 8)))
      (alike.value context operands after s typed.1 state same fits small);
  fits = λ context operands fits. alike.fits context operands fits;
  leaves = λ test of_leaves all. (of_leaves.loads width u t ∙ all.0, alike.leaves test of_leaves all.1);
  input = alike.input;
}
