-- A derivation's tree is its node over the trees of its children.
use Rattle.std.proofs.Common.{◌≡◌, List, [], ◌∷◌, map, rules, Option, None, Some, refl, ap}
use Rattle.std.specs.Option.{option_map}
use Rattle.qc_derivations.specs.declared.derivation.Binding.{Binding}
use Rattle.qc_derivations.specs.declared.derivation.Derivation.{Derivation, fold_out-Derivation, out-Derivation, the_lemmas}
use Rattle.qc_derivations.specs.Forest.{Bound, Forest, Grow, bound_by, bound_of, children_under, grow_flag, grown, grows_of, grows_of_flag, is_there, node_of, stand_of}

stands : (bindings : List Binding) → map (λ (b : Bound). b.stand) (map bound_by bindings) ≡ map stand_of bindings
stands [] = refl
stands (b ∷ bs) = ap (λ more. stand_of b ∷ more) (stands bs)

flag_grows : (flag : Option Derivation) → grow_flag (option_map grows_of flag) ≡ grows_of_flag flag
flag_grows None = refl
flag_grows (Some d) = refl

flag_there : (flag : Option Derivation) → is_there (option_map grows_of flag) ≡ is_there flag
flag_there None = refl
flag_there (Some d) = refl

pub grows_of-tree : (d : Derivation) (rest : Forest) → grows_of d rest ≡ Grow (node_of d) (children_under d) rest
grows_of-tree d rest =
    let opened = ap (λ (g : Forest → Forest). g rest) (fold_out-Derivation Bound (Forest → Forest) bound_of grown d) in
    let one = stands (out-Derivation d).bindings in
    let two = flag_grows (out-Derivation d).flag in
    let three = flag_there (out-Derivation d).flag in
    let goal : grows_of d rest ≡ Grow (node_of d) (children_under d) rest = search (rules, the_lemmas, stands, flag_grows, flag_there) in goal
