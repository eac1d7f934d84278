-- What expressions without names come to as terms with widths, and their effects as those of a register transfer list.
use Rattle.std.specs.Prelude.{ℕ, min, ◌&&◌, is_some, List, [], ◌∷◌, ◌++◌, Option, None, Some}
use Rattle.qc_words.specs.declared.operator.Op.TheVariants as op
use Rattle.qc_terms.specs.declared.term.Dest.TheVariants as dest
use Rattle.qc_terms.specs.declared.term.Term.{Term}
use Rattle.qc_terms.specs.declared.term.Term.TheVariants as term
use Rattle.qc_facts.specs.Values.{Value, bits_of, faulty, leaf, node, excess, past_end, test, operator_at}
use Rattle.qc_bodies.specs.declared.tree.Leaf as sort_of_leaf
use Rattle.qc_bodies.specs.declared.tree.Leaf.TheVariants as leaves
use Rattle.qc_bodies.specs.declared.tree.Wrap as sort_of_wrap
use Rattle.qc_bodies.specs.declared.tree.Wrap.TheVariants as wraps
use Rattle.qc_bodies.specs.Meanings.{Algebra, Change, Pc, Out, Halt, Trap, Memory, Register, Done}
use Rattle.qc_resolve.specs.Scopes.{Act}
use Rattle.qc_resolve.specs.Effects.{act_of, guarded}

abbrev pub term_of_leaf : sort_of_leaf.Leaf → Option ℕ → Term
term_of_leaf (leaves.Number value) width = term.Num value (bits_of width)
term_of_leaf (leaves.Register place) width = term.Reg place (bits_of width)
term_of_leaf (leaves.Immediate operand) width = term.Imm operand (bits_of width)
term_of_leaf leaves.Input width = term.Input (bits_of width)
term_of_leaf leaves.After width = term.After (bits_of width)

-- An address is a word, an extension doesn't narrow, and a slice lies within its operand.
abbrev pub wrapped : Option ℕ → ℕ → sort_of_wrap.Wrap → Option ℕ → Value → Value
wrapped word token wraps.Load width v =
    node token (term.Mem (bits_of width) v.term) width (v.sound && is_some width) v.clashes (test v word)
wrapped word token wraps.Zx width v =
    node token (term.Un (op.Zx (bits_of width)) v.term) width (v.sound && is_some width) v.clashes
    (excess v.token v.width width)
wrapped word token wraps.Sx width v =
    node token (term.Un (op.Sx (bits_of width)) v.term) width (v.sound && is_some width) v.clashes
    (excess v.token v.width width)
wrapped word token (wraps.Slice low) width v =
    node token (term.Un (op.Slice (min low 64) (bits_of width)) v.term) width (v.sound && is_some width) v.clashes
    (past_end v.token v.width low width)

-- terms with their widths, where words have this width
abbrev pub terms : Option ℕ → Algebra Value
terms word = record {
  leaf = λ token l width. leaf token (term_of_leaf l width) width;
  absent = faulty;
  wrap = wrapped word;
  operate = λ token o vs. operator_at o token vs;
}

-- one effect without its guards
abbrev pub act_on : Option ℕ → Change Value → Value → Act
act_on word Pc v = act_of dest.Pc [] v word
act_on word Out v = act_of dest.Out [] v word
act_on word Halt v = act_of dest.Halt [] v word
act_on word Trap v = act_of dest.Trap [] v (Some 8)
act_on word (Memory width address) v =
    act_of (dest.Mem (bits_of width) address.term) (address.clashes ++ test address word) v width
act_on word (Register None) v = act_of dest.Pc [] v None
act_on word (Register (Some target)) v = act_of (dest.Reg target.place) [] v target.width

-- The guards of uses and that of the effect are joined, the outermost first.
abbrev pub act_under : List Value → Act → Act
act_under [] act = act
act_under (guard ∷ guards) act = guarded guard (act_under guards act)

abbrev pub act_done : Option ℕ → Done Value → Act
act_done word done = act_under done.guards (act_on word done.to done.value)
