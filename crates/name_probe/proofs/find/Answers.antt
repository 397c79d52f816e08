-- The cells before turn t neither are empty nor hold the number of a booking with the name. A turn that finds one of them ends it, and each other
-- number is passed over.
use Rattle.std.specs.Prelude.{Some}
use mathlib.Core.Path.{sym, ap, ◌∙◌}
use native.Mathlib.Omega.{arith}
use borrow.Author.Rules.{rules}
use Rattle.rules.specs.Layout.{name_of}
use Rattle.name_index.specs.Index.{ends_lookup}
use Rattle.name_index.proofs.Probe.{probe_start, find_empty, find_over, find_hit, find_unused, find_other}
use Rattle.name_probe.proofs.find.Goals as goal

pub loop-t-init : goal.loop-t-init
loop-t-init c =
    (search rules, probe_start c.args.index.now c.home-h.result (ends_lookup c.args.w.now c.args.name))

pub loop-t-preserved-then-n-i : goal.loop-t-preserved-then-n-i
loop-t-preserved-then-n-i c = (
  omega arith,
  find_unused c.args.index.now c.home-h.result c.args.w.now c.args.name c.requires.2 c.loop-t.t c.loop-t.invariant.1 (omega arith) c.if-held.false
      (omega (arith, c.if-n-i.true, c.wide-i.ensures, c.how_many-n.ensures)),
)

pub loop-t-preserved : goal.loop-t-preserved
loop-t-preserved c = (
  omega arith,
  find_other c.args.index.now c.home-h.result c.args.w.now c.args.name c.requires.2 c.loop-t.t c.loop-t.invariant.1 (omega arith) c.if-held.false
      (λ e. c.if-name.false (c.name.ensures ∙ ap (name_of c.args.w.now) c.wide-i.ensures.0 ∙ e)),
)

pub returns-then-t-eq-CELLS : goal.returns-then-t-eq-CELLS
returns-then-t-eq-CELLS c =
    find_over c.args.index.now c.home-h.result c.args.w.now c.args.name c.requires.2 c.loop-t.t c.loop-t.invariant.1 c.home-h.ensures.0 (omega arith)

pub returns-then-held : goal.returns-then-held
returns-then-held c =
    find_empty c.args.index.now c.home-h.result c.args.w.now c.args.name c.requires.2 c.loop-t.t c.loop-t.invariant.1 c.home-h.ensures.0 (omega arith) c.if-held.true

pub returns-then-name : goal.returns-then-name
returns-then-name c =
    ap Some c.wide-i.ensures.0
    ∙ find_hit c.args.index.now c.home-h.result c.args.w.now c.args.name c.requires.2 c.loop-t.t c.loop-t.invariant.1 (omega arith) c.if-held.false
    c.home-h.ensures.0
    (omega (arith, c.if-n-i.false, c.wide-i.ensures, c.how_many-n.ensures))
    (ap (name_of c.args.w.now) (sym c.wide-i.ensures.0) ∙ sym c.name.ensures ∙ c.if-name.true)
