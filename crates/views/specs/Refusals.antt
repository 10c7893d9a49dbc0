-- The number of each refusal, as the table 'Where each refusal is checked' has it.
use Rattle.std.specs.Prelude.{Bool, true, false, ℕ, Result, Ok, Err}
use Rattle.views.specs.declared.refusal.Refusal.{Refusal}
use Rattle.views.specs.declared.refusal.Refusal.TheVariants.{MembersOutOfRange, FirstSetUnfit, ListLength}
use Rattle.views.specs.declared.refusal.Refusal.TheVariants.{RecordsUnsound, UnknownStep, NoSuchMember, SetUnfit}
use Rattle.views.specs.declared.refusal.Refusal.TheVariants.{IdentifierNotAbove, ListFull, NoSuchView, NotInSet}
use Rattle.views.specs.declared.refusal.Refusal.TheVariants.{NotAboveCarrier, NoCarrierView, NoneOutgoing}
use Rattle.views.specs.declared.refusal.Refusal.TheVariants.{WaitingFull, OrderFull, NoneWaiting, NoneToDeliver}
use Rattle.views.specs.declared.refusal.Refusal.TheVariants.{NotAboveClient, InfoMissing, TestFailed}
use Rattle.views.specs.declared.refusal.Refusal.TheVariants.{NoClientView, AlreadyRegistered, OutgoingFull}
use Rattle.views.specs.declared.refusal.Refusal.TheVariants.{NoneToHand, ClientNotCarrier, NothingNewToTell}
use Rattle.views.specs.declared.refusal.Refusal.TheVariants.{NoneToReport, ToldTooLow, NotAboveSettled}
use Rattle.views.specs.declared.refusal.Refusal.TheVariants.{RegistrationMissing, EndsEarly, UnknownKind}
use Rattle.views.specs.declared.refusal.Refusal.TheVariants.{SectionCount, EmptySet, NotRising, ToldOutOfRange}
use Rattle.views.specs.declared.refusal.Refusal.TheVariants.{BytesLeftOver, BufferTooShort, LineUnreadable}
use Rattle.views.specs.declared.refusal.Refusal.TheVariants.{AnotherView, SenderNotInView, TooManyOpen}
use Rattle.views.specs.declared.refusal.Refusal.TheVariants.{ViewNotFresh, FormTestFailed, TooFewPlaces}

abbrev pub number_of : Refusal → ℕ
number_of MembersOutOfRange = 1
number_of FirstSetUnfit = 2
number_of ListLength = 3
number_of RecordsUnsound = 4
number_of UnknownStep = 5
number_of NoSuchMember = 6
number_of SetUnfit = 7
number_of IdentifierNotAbove = 8
number_of ListFull = 9
number_of NoSuchView = 10
number_of NotInSet = 11
number_of NotAboveCarrier = 12
number_of NoCarrierView = 13
number_of NoneOutgoing = 14
number_of WaitingFull = 15
number_of OrderFull = 16
number_of NoneWaiting = 17
number_of NoneToDeliver = 18
number_of NotAboveClient = 19
number_of InfoMissing = 20
number_of TestFailed = 21
number_of NoClientView = 22
number_of AlreadyRegistered = 23
number_of OutgoingFull = 24
number_of NoneToHand = 25
number_of ClientNotCarrier = 26
number_of NothingNewToTell = 27
number_of NoneToReport = 28
number_of ToldTooLow = 29
number_of NotAboveSettled = 30
number_of RegistrationMissing = 31
number_of EndsEarly = 32
number_of UnknownKind = 33
number_of SectionCount = 34
number_of EmptySet = 35
number_of NotRising = 36
number_of ToldOutOfRange = 37
number_of BytesLeftOver = 38
number_of BufferTooShort = 39
number_of LineUnreadable = 40
number_of AnotherView = 41
number_of SenderNotInView = 42
number_of TooManyOpen = 43
number_of ViewNotFresh = 44
number_of FormTestFailed = 45
number_of TooFewPlaces = 46

-- what every call answers: accepted, or one refusal
abbrev pub Verdict : Type 0
Verdict = Result (Unit {0}) Refusal

module _ {A : Type 0} where
  -- 0 for accepted, or the refusal's number
  abbrev pub code_of : Result A Refusal → ℕ
  code_of (Ok x) = 0
  code_of (Err r) = number_of r

  -- what follows if the condition is met, else the refusal
  unfoldable pub require : Bool → Refusal → Result A Refusal → Result A Refusal
  require true r rest = rest
  require false r rest = Err r

-- the verdict of a result: whether it is accepted, whatever it gives
abbrev pub verdict_given : {A : Type 0} → Result A Refusal → Verdict
verdict_given (Ok x) = Ok tt
verdict_given (Err r) = Err r

-- what is made of what is given
unfoldable pub after : {A B : Type 0} → Result A Refusal → (A → Result B Refusal) → Result B Refusal
after (Ok x) f = f x
after (Err r) f = Err r

-- one result, and if it is accepted another
unfoldable pub and_then : {A B : Type 0} → Result A Refusal → Result B Refusal → Result B Refusal
and_then (Ok x) rest = rest
and_then (Err r) rest = Err r

-- the new ones where a step was accepted, else those that were there
unfoldable pub left : {A B : Type 0} → Result B Refusal → A → A → A
left (Ok x) new old = new
left (Err r) new old = old
