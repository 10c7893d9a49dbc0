-- The table of the marked cases, computed from the definitions of the rules and of the messages.
use mathlib.Core.Path.{refl}
use Rattle.numbers.specs.Number.{get, digits}
use Rattle.views.specs.Points.{at, at2}
use Rattle.views.specs.Refusals.{require, and_then}
use Rattle.views.specs.Refusals as V
use Rattle.views.specs.Sets.{has, is_beyond, in_common, weigh}
use Rattle.views.specs.Lists.{is_rising, rises_above, find_of, insert_of, among, union_of, above_of, places}
use Rattle.wire.specs.Format.{is_known, views_allowed, numbers_allowed, some_empty, told_fits, content_of}
use Rattle.wire.specs.Reader as W
use Rattle.wire.specs.Single.{read_one}
use Rattle.rules.specs.Data.{need, with_view, with_first, after}
use Rattle.rules.specs.Member.{every, all, passes, queues, joined, joins, passing, settled_by, learned, received, delivered, opened, attempted, attempts, registers, sends, hands, tells, safes, collected, collects}
use Rattle.rules.specs.Sound.{conditions, every_book, every_queue, book_counts, counts, listed, book_listed, sound}
use Rattle.rules.specs.Group.{with_listed, booked, own, fresh, started, start, creates, join_step, pass_step, order_step, deliver_step, pick, step_of, step}
use Rattle.rules.specs.Runs.{last_of}
use Rattle.rules.specs.Cases as C

pub cases : C.MarkedCases
unfolding C.table C.set_of C.against C.was_read C.reading C.outcome C.last_outcome C.group C.each C.deliver C.exchanged C.joined C.settled C.joined_without
    get digits at at2 require has is_beyond in_common weigh is_rising rises_above find_of insert_of among union_of above_of places
    is_known views_allowed numbers_allowed some_empty told_fits content_of W.views_in W.number_in W.message_of W.scan_of and_then V.after W.read_front read_one
    need with_view with_first after every all passes queues joined joins passing settled_by learned received delivered opened attempted attempts registers sends hands tells safes collected collects
    conditions every_book every_queue book_counts counts listed book_listed sound
    with_listed booked own fresh started start creates join_step pass_step order_step deliver_step pick step_of step last_of
cases = refl
