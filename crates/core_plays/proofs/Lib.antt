pub mod RestLaws
