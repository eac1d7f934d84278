use Rattle.std.specs.Prelude.{◌≡◌}
use Rattle.std.proofs.Common.{ap, ◌∙◌}
use Rattle.qc_widths.specs.GivenFacts.{first_given, zero_given, frame_given, link_given, allocatable_given}
use Rattle.qc_descr.specs.declared.parts.Given.{Given}
use Rattle.qc_widths.proofs.given.given.Goals as goal

same_given : (g h : Given) → g.word ≡ h.word → g.order ≡ h.order → g.align ≡ h.align → g.slot_bits ≡ h.slot_bits →
    g.frame ≡ h.frame → g.link ≡ h.link → g.zero ≡ h.zero → g.allocatable ≡ h.allocatable → g.memory ≡ h.memory →
    g.code_end ≡ h.code_end → g.data_end ≡ h.data_end → g ≡ h
same_given g h word order align slot_bits frame link zero_ allocatable memory code_end data_end = λ i. record {
  word = word i;
  order = order i;
  align = align i;
  slot_bits = slot_bits i;
  frame = frame i;
  link = link i;
  zero = zero_ i;
  allocatable = allocatable i;
  memory = memory i;
  code_end = code_end i;
  data_end = data_end i;
}

pub returns : goal.returns
returns c =
    let items = c.args.items.now in
    same_given _ _ c.word_given.ensures c.order_given.ensures c.size_given.ensures c.size_given-2.ensures
    (c.cell_given.ensures ∙ ap (λ f. first_given (frame_given f) items) c.requires.facts)
    (c.cell_given-2.ensures ∙ ap (λ f. first_given (link_given f) items) c.requires.facts)
    (c.cell_given-3.ensures ∙ ap (λ f. first_given (zero_given f) items) c.requires.facts)
    (c.allocatable_given.ensures ∙ ap (λ f. first_given (allocatable_given f) items) c.requires.facts)
    c.size_given-3.ensures c.size_given-4.ensures c.size_given-5.ensures
