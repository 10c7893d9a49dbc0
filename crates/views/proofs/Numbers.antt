-- No refusal has the number 0.
use mathlib.Core.Path.{◌≡◌, refl}
use mathlib.Core.Bool.{false}
use lib.Dec.{eqb}
use Rattle.views.specs.declared.refusal.Refusal.{Refusal}
use Rattle.views.specs.declared.refusal.Refusal.TheVariants.{MembersOutOfRange, FirstSetUnfit, ListLength}
use Rattle.views.specs.declared.refusal.Refusal.TheVariants.{RecordsUnsound, UnknownStep, NoSuchMember, SetUnfit}
use Rattle.views.specs.declared.refusal.Refusal.TheVariants.{IdentifierNotAbove, ListFull, NoSuchView, NotInSet}
use Rattle.views.specs.declared.refusal.Refusal.TheVariants.{NotAboveCarrier, NoCarrierView, NoneOutgoing}
use Rattle.views.specs.declared.refusal.Refusal.TheVariants.{WaitingFull, OrderFull, NoneWaiting, NoneToDeliver}
use Rattle.views.specs.declared.refusal.Refusal.TheVariants.{NotAboveClient, InfoMissing, TestFailed}
use Rattle.views.specs.declared.refusal.Refusal.TheVariants.{NoClientView, AlreadyRegistered, OutgoingFull}
use Rattle.views.specs.declared.refusal.Refusal.TheVariants.{NoneToHand, ClientNotCarrier, NothingNewToTell}
use Rattle.views.specs.declared.refusal.Refusal.TheVariants.{NoneToReport, ToldTooLow, NotAboveSettled}
use Rattle.views.specs.declared.refusal.Refusal.TheVariants.{RegistrationMissing, EndsEarly, UnknownKind}
use Rattle.views.specs.declared.refusal.Refusal.TheVariants.{SectionCount, EmptySet, NotRising, ToldOutOfRange}
use Rattle.views.specs.declared.refusal.Refusal.TheVariants.{BytesLeftOver, BufferTooShort, LineUnreadable}
use Rattle.views.specs.declared.refusal.Refusal.TheVariants.{AnotherView, SenderNotInView, TooManyOpen}
use Rattle.views.specs.declared.refusal.Refusal.TheVariants.{ViewNotFresh, FormTestFailed, TooFewPlaces}
use Rattle.views.specs.Refusals.{number_of}

pub never-0 : (r : Refusal) → eqb (number_of r) 0 ≡ false
never-0 MembersOutOfRange = refl
never-0 FirstSetUnfit = refl
never-0 ListLength = refl
never-0 RecordsUnsound = refl
never-0 UnknownStep = refl
never-0 NoSuchMember = refl
never-0 SetUnfit = refl
never-0 IdentifierNotAbove = refl
never-0 ListFull = refl
never-0 NoSuchView = refl
never-0 NotInSet = refl
never-0 NotAboveCarrier = refl
never-0 NoCarrierView = refl
never-0 NoneOutgoing = refl
never-0 WaitingFull = refl
never-0 OrderFull = refl
never-0 NoneWaiting = refl
never-0 NoneToDeliver = refl
never-0 NotAboveClient = refl
never-0 InfoMissing = refl
never-0 TestFailed = refl
never-0 NoClientView = refl
never-0 AlreadyRegistered = refl
never-0 OutgoingFull = refl
never-0 NoneToHand = refl
never-0 ClientNotCarrier = refl
never-0 NothingNewToTell = refl
never-0 NoneToReport = refl
never-0 ToldTooLow = refl
never-0 NotAboveSettled = refl
never-0 RegistrationMissing = refl
never-0 EndsEarly = refl
never-0 UnknownKind = refl
never-0 SectionCount = refl
never-0 EmptySet = refl
never-0 NotRising = refl
never-0 ToldOutOfRange = refl
never-0 BytesLeftOver = refl
never-0 BufferTooShort = refl
never-0 LineUnreadable = refl
never-0 AnotherView = refl
never-0 SenderNotInView = refl
never-0 TooManyOpen = refl
never-0 ViewNotFresh = refl
never-0 FormTestFailed = refl
never-0 TooFewPlaces = refl
