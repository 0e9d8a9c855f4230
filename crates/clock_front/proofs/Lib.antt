mod PageLaws
mod PublicLaws
mod Examples
mod TokenLaws
mod OutcomeLaws
pub mod FrontLaws
mod ChangeLaws
mod ReplyLaws
mod AskLaws
pub mod AnswerLaws
pub mod RunLaws
mod ConnectionLaws
mod NumberedLaws
mod EventLaws
mod StreamLaws
pub mod CallerLaws
pub mod TextViews
mod PrivateLaws
