-- A refusal is the first test that is not met: those before it were passed.
use mathlib.Core.Path.{sym, ◌∙◌}
use borrow.Author.Tests.{le-leb, lt-leb, not-true, not-false}
use Rattle.wire.specs.Reader.{scan_of}
use Rattle.views.proofs.VerdictLaws.{need-met, need-unmet}
use Rattle.wire.proofs.reader.scan.Goals as goal

pub returns-then-size-lt1 : goal.returns-then-size-lt1
unfolding scan_of
returns-then-size-lt1 c = sym (need-unmet _ _ (lt-leb _ _ c.if-size-lt1.true))

pub returns-then-not-known : goal.returns-then-not-known
unfolding scan_of
returns-then-not-known c = sym (need-met _ _ (le-leb _ _ c.if-size-lt1.false) ∙ need-unmet _ _ (sym c.known.ensures ∙ not-true _ c.if-not-known.true-raw))

pub returns-then-size-lt-VIEWS_AT : goal.returns-then-size-lt-VIEWS_AT
unfolding scan_of
returns-then-size-lt-VIEWS_AT c =
    let if1 = c.if-size-lt1 in
    sym (need-met _ _ (le-leb _ _ if1.false) ∙ need-met _ _ (sym c.known.ensures ∙ not-false _ c.if-not-known.false-raw) ∙ need-unmet _ _ (lt-leb _ _ c.if-size-lt-VIEWS_AT.true))

pub returns-then-not-views_allowed : goal.returns-then-not-views_allowed
unfolding scan_of
returns-then-not-views_allowed c =
    let if1 = c.if-size-lt1 in
    let known = c.known in
    let if2 = c.if-not-known in
    sym (need-met _ _ (le-leb _ _ if1.false) ∙ need-met _ _ (sym known.ensures ∙ not-false _ if2.false-raw) ∙ need-met _ _ (le-leb _ _ c.if-size-lt-VIEWS_AT.false) ∙ need-unmet _ _ (sym c.views_allowed.ensures ∙ not-true _ c.if-not-views_allowed.true-raw))

pub returns-then-size-at : goal.returns-then-size-at
unfolding scan_of
returns-then-size-at c =
    let if1 = c.if-size-lt1 in
    let known = c.known in
    let if2 = c.if-not-known in
    let if3 = c.if-size-lt-VIEWS_AT in
    sym (need-met _ _ (le-leb _ _ if1.false) ∙ need-met _ _ (sym known.ensures ∙ not-false _ if2.false-raw) ∙ need-met _ _ (le-leb _ _ if3.false) ∙ need-met _ _ (sym c.views_allowed.ensures ∙ not-false _ c.if-not-views_allowed.false-raw) ∙ need-unmet _ _ (lt-leb _ _ c.if-size-at.true))

pub returns-then-not-numbers_allowed : goal.returns-then-not-numbers_allowed
unfolding scan_of
returns-then-not-numbers_allowed c =
    let if1 = c.if-size-lt1 in
    let known = c.known in
    let if2 = c.if-not-known in
    let if3 = c.if-size-lt-VIEWS_AT in
    let va = c.views_allowed in
    let if4 = c.if-not-views_allowed in
    sym (need-met _ _ (le-leb _ _ if1.false) ∙ need-met _ _ (sym known.ensures ∙ not-false _ if2.false-raw) ∙ need-met _ _ (le-leb _ _ if3.false) ∙ need-met _ _ (sym va.ensures ∙ not-false _ if4.false-raw) ∙ need-met _ _ (le-leb _ _ c.if-size-at.false) ∙ need-unmet _ _ (sym c.numbers_allowed.ensures ∙ not-true _ c.if-not-numbers_allowed.true-raw))

pub returns-then-size-at-2 : goal.returns-then-size-at-2
unfolding scan_of
returns-then-size-at-2 c =
    let if1 = c.if-size-lt1 in
    let known = c.known in
    let if2 = c.if-not-known in
    let if3 = c.if-size-lt-VIEWS_AT in
    let va = c.views_allowed in
    let if4 = c.if-not-views_allowed in
    let if5 = c.if-size-at in
    sym (need-met _ _ (le-leb _ _ if1.false) ∙ need-met _ _ (sym known.ensures ∙ not-false _ if2.false-raw) ∙ need-met _ _ (le-leb _ _ if3.false) ∙ need-met _ _ (sym va.ensures ∙ not-false _ if4.false-raw) ∙ need-met _ _ (le-leb _ _ if5.false) ∙ need-met _ _ (sym c.numbers_allowed.ensures ∙ not-false _ c.if-not-numbers_allowed.false-raw) ∙ need-unmet _ _ (lt-leb _ _ c.if-size-at-2.true))

pub returns : goal.returns
unfolding scan_of
returns c =
    let if1 = c.if-size-lt1 in
    let known = c.known in
    let if2 = c.if-not-known in
    let if3 = c.if-size-lt-VIEWS_AT in
    let va = c.views_allowed in
    let if4 = c.if-not-views_allowed in
    let if5 = c.if-size-at in
    sym (need-met _ _ (le-leb _ _ if1.false) ∙ need-met _ _ (sym known.ensures ∙ not-false _ if2.false-raw) ∙ need-met _ _ (le-leb _ _ if3.false) ∙ need-met _ _ (sym va.ensures ∙ not-false _ if4.false-raw) ∙ need-met _ _ (le-leb _ _ if5.false) ∙ need-met _ _ (sym c.numbers_allowed.ensures ∙ not-false _ c.if-not-numbers_allowed.false-raw) ∙ need-met _ _ (le-leb _ _ c.if-size-at-2.false))
